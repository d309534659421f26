-- What is withdrawn or forgotten is lost, and nothing else is told.
use Rattle.std.specs.Prelude.{◌≡◌, ◌≤◌, ◌<◌, ◌-◌, ◌==◌, ℕ, zero, suc, nat_lt, Bool, true, false, cond, ◌&&◌, List, [], ◌∷◌, ◌++◌, Option, None, Some, Ok, map, refl}
use Rattle.std.specs.Option.{option_map, option_map_or, option_and_then, option_or}
use Rattle.std.specs.FinMap.{FinMap, get, insert, remove, get-empty, get-insert}
use Rattle.std.specs.Ordering.{nat_cmp, is_eq}
use Rattle.std.specs.Cmp.{nat_cmp_total, eq_by_cmp_equiv}
use Rattle.std.proofs.Common.{arith, ap, sym, subst, ◌∙◌}
use Rattle.std.proofs.lemmas.Map.Lookups.{exact_unsigned}
use Rattle.std.proofs.lemmas.Map.Views.{tells_apart}
use Rattle.std.proofs.lemmas.Bool.{lt-ltb, le-ltb, ltb-true, ltb-false}
use mathlib.Core.Bool.{true≢false}
use Rattle.opa_model.specs.declared.ids.RelId.{RelId}
use Rattle.opa_cells.specs.declared.instance.InstanceId.{InstanceId}
use Rattle.opa_cells.specs.Instances.{instance_cmp, is_same, global, named}
use Rattle.opa_cells.specs.Keys.{cell_cmp}
use Rattle.opa_cells.proofs.Orders.{cell_total}
use Rattle.opa_cells.proofs.Rowed.{parts}
use Rattle.opa_case.specs.declared.change.Refusal.TheVariants.{Name}
use Rattle.opa_case.specs.Shapes.{Shape, IsShape}
use Rattle.opa_case.specs.Live.{Names, Lists, gathered, walk, container_of}
use Rattle.opa_case.specs.Cases.{CaseView, stored, list_of}
use Rattle.opa_case.specs.Steps.{rel, with_every, every_upto, every_of, is_misplaced, is_unanswerable, without_answer, without_list}
use Rattle.opa_case.specs.Fits.{Fits}
use Rattle.opa_case.specs.Laws.{OnlyLoses, WithdrawLoses, ForgetLoses}
use Rattle.opa_case.proofs.Commit.{key_test}
use Rattle.opa_case.proofs.Stands.{in_upto}
use Rattle.opa_case.proofs.Kept.{stands, removed, guard, ok_is}
use Rattle.opa_case.proofs.Answering.{answer_removed}
use Rattle.opa_case.proofs.Stepping.{settled_list, settled_answer}

abbrev the_names : List InstanceId → Names
the_names is = map (λ i. i.name) is

nothing : {A : Type 0} (b : Bool) → ◌≡◌ {A = Option A} None (cond b None None)
nothing true = refl
nothing false = refl

module _ (s : Shape) (l : Lists) where
  -- what the `every` lists have at a key
  abbrev pub every_at : ℕ → InstanceId → Option Names
  every_at q j = cond (s.every (rel q) && is_same j global) (option_map the_names (walk s l s.count (s.target (rel q)))) None

  added : (n : ℕ) (j : InstanceId) (before : FinMap cell_cmp Names) → get before (n, j) ≡ None → (e : Bool) (w : Option (List InstanceId))
      → get (cond e (option_map_or (λ is. insert before (n, global) (the_names is)) w before) before) (n, j) ≡ cond (e && is_same j global) (option_map the_names w) None
  added n j before none false w = none
  added n j before none true None = none ∙ nothing (is_same j global)
  added n j before none true (Some is) =
      get-insert cell_total before (n, global) (the_names is) (n, j)
      ∙ ap (λ b. cond b (Some (the_names is)) (get before (n, j))) (sym (key_test n n j global refl))
      ∙ ap (λ o. cond (is_same j global) (Some (the_names is)) o) none

  passed_by : (q n : ℕ) (j : InstanceId) (before : FinMap cell_cmp Names) → is_eq (nat_cmp q n) ≡ false → (e : Bool) (w : Option (List InstanceId))
      → get (cond e (option_map_or (λ is. insert before (n, global) (the_names is)) w before) before) (q, j) ≡ get before (q, j)
  passed_by q n j before other false w = refl
  passed_by q n j before other true None = refl
  passed_by q n j before other true (Some is) =
      get-insert cell_total before (n, global) (the_names is) (q, j)
      ∙ ap (λ b. cond b (Some (the_names is)) (get before (q, j))) (parts (nat_cmp q n) (instance_cmp j global) ∙ ap (λ b. b && is_same j global) other)

  not_same : (q n : ℕ) → is_eq (nat_cmp q n) ≡ false → nat_lt q n ≡ nat_lt q (suc n)
  not_same q n other = go (nat_lt q n) refl
    where
      go : (b : Bool) → nat_lt q n ≡ b → b ≡ nat_lt q (suc n)
      go true h = sym (lt-ltb q (suc n) (omega (arith, ltb-true q n h)))
      go false h = sym (le-ltb q (suc n) (above (ltb-false q n h)))
        where
          above : n ≤ q → suc n ≤ q
          above le = two (nat_lt n q) refl
            where
              two : (b : Bool) → nat_lt n q ≡ b → suc n ≤ q
              two true g = omega (arith, ltb-true n q g)
              two false g = let same : q ≡ n = omega (arith, ltb-false n q g, le) in absurd (true≢false (sym (subst (λ m. is_eq (nat_cmp q m) ≡ true) same ((eq_by_cmp_equiv nat_cmp_total).refl q)) ∙ other))

  pub get-every : (n q : ℕ) (j : InstanceId) → get (every_upto s l n) (q, j) ≡ cond (nat_lt q n) (every_at q j) None
  unfolding every_upto
  get-every zero q j = get-empty cell_cmp (q, j) ∙ ap (λ b. cond b (every_at q j) None) (sym (le-ltb q 0 (omega arith)))
  get-every (suc n) q j = elim (is_eq (nat_cmp q n)) as (λ b. is_eq (nat_cmp q n) ≡ b → get (with_every s l n (every_upto s l n)) (q, j) ≡ cond (nat_lt q (suc n)) (every_at q j) None) [
    | true ↦ λ h.
        let same : q ≡ n = tells_apart exact_unsigned q n h in
        ap (λ m. get (with_every s l n (every_upto s l n)) (m, j)) same
        ∙ added n j (every_upto s l n) (get-every n n j ∙ ap (λ b. cond b (every_at n j) None) (le-ltb n n (omega arith))) (s.every (rel n)) (walk s l s.count (s.target (rel n)))
        ∙ ap (λ b. cond b (every_at n j) None) (sym (lt-ltb n (suc n) (omega arith)))
        ∙ ap (λ m. cond (nat_lt m (suc n)) (every_at m j) None) (sym same)
    | false ↦ λ h.
        passed_by q n j (every_upto s l n) h (s.every (rel n)) (walk s l s.count (s.target (rel n)))
        ∙ get-every n q j ∙ ap (λ b. cond b (every_at q j) None) (not_same q n h)
  ] refl

-- lists of which more may be known
abbrev Tells : Lists → Lists → Type 0
Tells l l' = (r : RelId) (i : InstanceId) (ns : Names) → l' r i ≡ Some ns → l r i ≡ Some ns

module _ (s : Shape) (l l' : Lists) (tells : Tells l l') where
  gathered_more : (r : RelId) (cs : List InstanceId) (ns : Names) → gathered (map (l' r) cs) ≡ Some ns → gathered (map (l r) cs) ≡ Some ns
  gathered_more r [] ns h = h
  gathered_more r (c ∷ cs) ns h = go (l' r c) refl (gathered (map (l' r) cs)) refl h (λ k g. gathered_more r cs k g)
    where
      go : (o : Option Names) → l' r c ≡ o → (p : Option Names) → gathered (map (l' r) cs) ≡ p → gathered (o ∷ map (l' r) cs) ≡ Some ns → ((k : Names) → gathered (map (l' r) cs) ≡ Some k → gathered (map (l r) cs) ≡ Some k) → gathered (l r c ∷ map (l r) cs) ≡ Some ns
      go None is p more g later = absurd (cc g)
      go (Some first) is None more g later = absurd (cc (sym (ap (option_map (λ k. first ++ k)) more) ∙ g))
      go (Some first) is (Some rest) more g later =
          ap (λ o. gathered (o ∷ map (l r) cs)) (tells r c first is) ∙ ap (option_map (λ k. first ++ k)) (later rest more ∙ sym more) ∙ g

  walk_more : (n e : ℕ) (is : List InstanceId) → walk s l' n e ≡ Some is → walk s l n e ≡ Some is
  unfolding walk
  walk_more zero e is h = h
  walk_more (suc n) e is h = elim (e == 0) as (λ b. cond b (Some (global ∷ [])) (option_and_then (λ cs. option_map (map (named e)) (gathered (map (l' (s.contained e)) cs))) (walk s l' n (s.parent e))) ≡ Some is → cond b (Some (global ∷ [])) (option_and_then (λ cs. option_map (map (named e)) (gathered (map (l (s.contained e)) cs))) (walk s l n (s.parent e))) ≡ Some is) [
    | true ↦ λ g. g
    | false ↦ λ g. go (walk s l' n (s.parent e)) refl g (λ cs k. walk_more n (s.parent e) cs k)
  ] h
    where
      inner : (cs : List InstanceId) (p : Option Names) → gathered (map (l' (s.contained e)) cs) ≡ p → option_map (map (named e)) p ≡ Some is → option_map (map (named e)) (gathered (map (l (s.contained e)) cs)) ≡ Some is
      inner cs None more g = absurd (cc g)
      inner cs (Some names) more g = ap (option_map (map (named e))) (gathered_more (s.contained e) cs names more) ∙ g

      go : (o : Option (List InstanceId)) → walk s l' n (s.parent e) ≡ o → option_and_then (λ cs. option_map (map (named e)) (gathered (map (l' (s.contained e)) cs))) o ≡ Some is → ((cs : List InstanceId) → walk s l' n (s.parent e) ≡ Some cs → walk s l n (s.parent e) ≡ Some cs) → option_and_then (λ cs. option_map (map (named e)) (gathered (map (l (s.contained e)) cs))) (walk s l n (s.parent e)) ≡ Some is
      go None at g before = absurd (cc g)
      go (Some cs) at g before = ap (option_and_then (λ ds. option_map (map (named e)) (gathered (map (l (s.contained e)) ds)))) (before cs at) ∙ inner cs (gathered (map (l' (s.contained e)) cs)) refl g

  at_more : (q : ℕ) (j : InstanceId) (ns : Names) → every_at s l' q j ≡ Some ns → every_at s l q j ≡ Some ns
  at_more q j ns h = elim (s.every (rel q) && is_same j global) as (λ b. cond b (option_map the_names (walk s l' s.count (s.target (rel q)))) None ≡ Some ns → cond b (option_map the_names (walk s l s.count (s.target (rel q)))) None ≡ Some ns) [
    | true ↦ λ g. go (walk s l' s.count (s.target (rel q))) refl g
    | false ↦ λ g. g
  ] h
    where
      go : (o : Option (List InstanceId)) → walk s l' s.count (s.target (rel q)) ≡ o → option_map the_names o ≡ Some ns → option_map the_names (walk s l s.count (s.target (rel q))) ≡ Some ns
      go None at g = absurd (cc g)
      go (Some is) at g = ap (option_map the_names) (walk_more s.count (s.target (rel q)) is at) ∙ g

  pub every_more : (q : ℕ) (j : InstanceId) (ns : Names) → get (every_of s l') (q, j) ≡ Some ns → get (every_of s l) (q, j) ≡ Some ns
  every_more q j ns h = get-every s l s.relations q j ∙ elim (nat_lt q s.relations) as (λ b. cond b (every_at s l' q j) None ≡ Some ns → cond b (every_at s l q j) None ≡ Some ns) [
    | true ↦ λ g. at_more q j ns g
    | false ↦ λ g. g
  ] (sym (get-every s l' s.relations q j) ∙ h)

-- only relations that are declared with `every` have a list there
pub is_every : (s : Shape) (l : Lists) (q : ℕ) (j : InstanceId) (ns : Names) → get (every_of s l) (q, j) ≡ Some ns → s.every (rel q) ≡ true
is_every s l q j ns h = elim (nat_lt q s.relations) as (λ b. cond b (every_at s l q j) None ≡ Some ns → s.every (rel q) ≡ true) [
  | true ↦ λ g. elim (s.every (rel q)) as (λ b. cond (b && is_same j global) (option_map the_names (walk s l s.count (s.target (rel q)))) None ≡ Some ns → b ≡ true) [
    | true ↦ λ _. refl
    | false ↦ λ k. absurd (cc k)
  ] g
  | false ↦ λ g. absurd (cc g)
] (sym (get-every s l s.relations q j) ∙ h)

pub withdraw_loses : WithdrawLoses
withdraw_loses s ruled c c' a i h =
    let same : without_answer c a i ≡ c' = ok_is (without_answer c a i) c' (guard (is_unanswerable s ruled c a i) Name (Ok (without_answer c a i)) c' h).1 in
    subst (OnlyLoses c) same (record {
      lists = λ r j names k. k;
      answers = λ b j line k. answer_removed c.answers (a.0, i) (b.0, j) line k;
      live = λ j d k. k;
    })

-- a list that is known after another is forgotten was known
forgotten_list : (s : Shape) (ruled : List Bool) (c : CaseView) (fits : Fits s ruled c) (r : RelId) (i : InstanceId) (q : RelId) (j : InstanceId) (names : Names) → list_of (without_list s c r i) q j ≡ Some names → list_of c q j ≡ Some names
forgotten_list s ruled c fits r i q j names h = go (get (without_list s c r i).lists (q.0, j)) refl h
  where
    unlisted : get (every_of s (stored (remove c.lists (r.0, i)))) (q.0, j) ≡ Some names → (o : Option Names) → get c.lists (q.0, j) ≡ o → option_or o (get c.every (q.0, j)) ≡ Some names
    unlisted g None at = ap (λ (m : FinMap cell_cmp Names). get m (q.0, j)) fits.every ∙ every_more s (stored c.lists) (stored (remove c.lists (r.0, i))) (λ p k ns t. removed c.lists (r.0, i) p k ns t) q.0 j names g
    unlisted g (Some ns) at = absurd (true≢false (sym (is_every s (stored (remove c.lists (r.0, i))) q.0 j names g) ∙ fits.sound.not_every q j ns at))

    go : (o : Option Names) → get (without_list s c r i).lists (q.0, j) ≡ o → option_or o (get (every_of s (stored (remove c.lists (r.0, i)))) (q.0, j)) ≡ Some names → option_or (get c.lists (q.0, j)) (get c.every (q.0, j)) ≡ Some names
    go None at g = unlisted g (get c.lists (q.0, j)) refl
    go (Some ns) at g = ap (λ o. option_or o (get c.every (q.0, j))) (removed c.lists (r.0, i) q j ns (settled_list s (remove c.lists (r.0, i)) c.answers q j ns at)) ∙ g

-- whoever is in a container then was in it
pub forgotten_home : (s : Shape) (ruled : List Bool) → IsShape s → (c : CaseView) (fits : Fits s ruled c) (r : RelId) (i : InstanceId) (j d : InstanceId) → container_of (without_list s c r i).live j ≡ Some d → container_of c.live j ≡ Some d
forgotten_home s ruled shape c fits r i j d h =
    let l' : Lists = stored (remove c.lists (r.0, i)) in
    let f = in_upto s l' (s.count - 1) j d h in
    let e = j.entity.0 in
    let lt : e < s.count = omega (arith, f.1, f.0, shape.some) in
    let known = removed c.lists (r.0, i) (s.contained e) d f.2.names f.2.known in
    ap (λ n. container_of c.live (named n j.name)) (sym (shape.target e f.0 lt)) ∙ stands s ruled shape c fits (s.contained e) d f.2.names j.name (shape.contains e f.0 lt) known f.2.listed

pub forget_loses : ForgetLoses
forget_loses s ruled shape c c' r i fits h =
    let same : without_list s c r i ≡ c' = ok_is (without_list s c r i) c' (guard (is_misplaced s c r i) Name (Ok (without_list s c r i)) c' h).1 in
    subst (OnlyLoses c) same (record {
      lists = λ q j names k. forgotten_list s ruled c fits r i q j names k;
      answers = λ b j line k. (settled_answer s (remove c.lists (r.0, i)) c.answers b j line k).1;
      live = λ j d k. forgotten_home s ruled shape c fits r i j d k;
    })
