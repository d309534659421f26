-- What goes and comes by a change of a containment list.
use Rattle.std.specs.Prelude.{◌≡◌, ◌≤◌, ◌<◌, ◌+◌, ◌-◌, ◌==◌, ℕ, suc, Bool, true, false, cond, not, ◌||◌, List, [], ◌∷◌, Option, Some, None, unwrap_or, refl}
use Rattle.std.specs.List.{list_any, AllByRecursion}
use Rattle.std.specs.FinMap.{FinMap, get, insert, remove, get-insert, get-remove}
use Rattle.std.specs.Ordering.{eq_by_cmp}
use Rattle.std.specs.Cmp.{eq_by_cmp_equiv}
use Rattle.std.proofs.Common.{arith, ap, sym, subst, ◌∙◌}
use Rattle.std.proofs.lemmas.Map.Views.{tells_apart, exact_unsigned_eq}
use Rattle.std.proofs.lemmas.Bool.{or_parts, not-false, false_from_ne_true, or_right, or_left}
use mathlib.Core.Bool.{true≢false}
use Rattle.opa_io.proofs.Options.{none_by}
use Rattle.opa_model.specs.declared.ids.RelId.{RelId}
use Rattle.opa_cells.specs.declared.instance.InstanceId.{InstanceId}
use Rattle.opa_cells.specs.Instances.{is_same, is_text, global, named}
use Rattle.opa_cells.specs.Keys.{cell_cmp}
use Rattle.opa_cells.proofs.Orders.{cell_exact, cell_total, same_is, same_itself}
use Rattle.opa_case.specs.Shapes.{Shape, IsShape}
use Rattle.opa_case.specs.Live.{Names, Lists, Population, members, in_container, live_upto, live_of, is_live, container_of}
use Rattle.opa_case.specs.Cases.{CaseView, stored, are_names}
use Rattle.opa_case.specs.Steps.{rel, is_misplaced, stands_elsewhere, cant_name, list_fault}
use Rattle.opa_case.specs.Fits.{Fits}
use Rattle.opa_case.specs.Turns.{names_without, is_among, gone_upto, leaving, coming, Turns}
use Rattle.opa_case.proofs.Stands.{container_found, in_members, in_upto, lookup_found, text_is, text_itself}
use Rattle.opa_case.proofs.Kept.{not_elsewhere, passes, tests_passed}
use Rattle.opa_case.proofs.Weighing.{weigh, unit, weigh-map, counted_is, counted_some, counted_none, some_counted, none_counted, weigh_ones, without_less, occurs, paired, paired_less, paired_found, found_paired, absent, times}
use Rattle.opa_case.proofs.Distinct.{once_upto, once_member, occurs_named, are_listed}
use Rattle.opa_case.proofs.Balancing.{balanced, gone_less}

-- Populations whose sums agree.
module _ (live next gone come : Population) (i : InstanceId)
    (sums : (w : InstanceId × InstanceId → ℕ) → weigh w next + weigh w gone ≡ weigh w live + weigh w come)
    (less : (w : InstanceId × InstanceId → ℕ) → weigh w gone ≤ weigh w live)
    (once : (x : InstanceId) → occurs x live + occurs x come ≤ 1)
    (no_global : occurs global live ≡ 0)
    (new : (x : InstanceId) → is_among come x ≡ true → is_live live x ≡ false)
    (inside : (x : InstanceId) → is_among come x ≡ true → 0 < paired x i come) where
  abbrev is : InstanceId → InstanceId × InstanceId → Bool
  is x p = is_same x p.0

  occurrences : (x : InstanceId) → occurs x next + occurs x gone ≡ occurs x live + occurs x come
  occurrences x = sums (λ p. cond (is_same x p.0) 1 0)

  pairs : (x d : InstanceId) → paired x d next + paired x d gone ≡ paired x d live + paired x d come
  pairs x d = sums (λ p. cond (is_same x p.0) (cond (is_same d p.1) 1 0) 0)

  fewer : (x : InstanceId) → occurs x gone ≤ occurs x live
  fewer x = less (λ p. cond (is_same x p.0) 1 0)

  not_both : (x : InstanceId) → 0 < occurs x gone → occurs x next ≡ 0
  not_both x some = omega (arith, occurrences x, once x, some)

  apart_from_global : (x : InstanceId) → 0 < occurs x live → is_same x global ≡ false
  apart_from_global x some = false_from_ne_true (is_same x global) (λ e. let none : occurs x live ≡ 0 = ap (λ y. occurs y live) (same_is x global e) ∙ no_global in omega (arith, none, some))

  not_live : (x : InstanceId) → is_same x global ≡ false → occurs x next ≡ 0 → is_live next x ≡ false
  not_live x other none = ap (λ b. b || list_any (is x) next) other ∙ none_counted (is x) next none

  lives : (x : InstanceId) → 0 < occurs x next → is_live next x ≡ true
  lives x some = or_right (is_same x global) _ (some_counted (is x) next some)

  gone_live : (x : InstanceId) → is_among gone x ≡ true → is_live live x ≡ true
  gone_live x h = or_right (is_same x global) _ (some_counted (is x) live (omega (arith, fewer x, counted_some (is x) gone h)))

  gone_dead : (x : InstanceId) → is_among gone x ≡ true → is_live next x ≡ false
  gone_dead x h =
      let some = counted_some (is x) gone h in
      not_live x (apart_from_global x (omega (arith, fewer x, some))) (not_both x some)

  -- the global instance doesn't go, and it stays
  global_stays : (x : InstanceId) → is_same x global ≡ true → is_live next x ≡ not (is_among gone x)
  global_stays x e =
      let none : occurs x live ≡ 0 = ap (λ y. occurs y live) (same_is x global e) ∙ no_global in
      or_left (is_same x global) _ e ∙ sym (ap not (none_counted (is x) gone (omega (arith, fewer x, none))))

  others_stay : (x : InstanceId) → list_any (is x) live ≡ true → (b : Bool) → is_among gone x ≡ b → is_live next x ≡ not b
  others_stay x h true goes = gone_dead x goes
  others_stay x h false keeps = lives x (omega (arith, occurrences x, counted_some (is x) live h, counted_none (is x) gone keeps))

  stay : (x : InstanceId) → is_live live x ≡ true → is_live next x ≡ not (is_among gone x)
  stay x h = elim (is_same x global) as (λ b. is_same x global ≡ b → (b || list_any (is x) live) ≡ true → is_live next x ≡ not (is_among gone x)) [
    | true ↦ λ e _. global_stays x e
    | false ↦ λ _ g. others_stay x g (is_among gone x) refl
  ] refl h

  few : (x : InstanceId) → occurs x next ≤ 1
  few x = omega (arith, occurrences x, once x)

  home : (x : InstanceId) → container_of next x ≡ cond (is_among gone x) None (cond (is_among come x) (Some i) (container_of live x))
  home x = by (is_among gone x) refl (is_among come x) refl (container_of live x) refl
    where
      kept : is_among gone x ≡ false → (d : InstanceId) → paired x d gone ≡ 0
      kept keeps d = omega (arith, paired_less x d gone, counted_none (is x) gone keeps)

      by : (b : Bool) → is_among gone x ≡ b → (a : Bool) → is_among come x ≡ a → (o : Option InstanceId) → container_of live x ≡ o → container_of next x ≡ cond b None (cond a (Some i) o)
      by true goes a at o was = absent x next (not_both x (counted_some (is x) gone goes))
      by false keeps true comes o was = found_paired x i next (few x) (omega (arith, pairs x i, kept keeps i, inside x comes))
      by false keeps false not_new (Some d) was = found_paired x d next (few x) (omega (arith, pairs x d, kept keeps d, paired_found x d live was))
      by false keeps false not_new None was = absent x next (omega (arith, occurrences x, nowhere live was, counted_none (is x) come not_new))
        where
          nowhere : (xs : Population) → container_of xs x ≡ None → occurs x xs ≡ 0
          nowhere xs none = counted_none (is x) xs (false_from_ne_true (list_any (is x) xs) (λ h. let f = lookup_found (is_same x) xs h in different f.0 (sym f.1 ∙ none)))
            where
              different : (d : InstanceId) → Some d ≡ None → ⊥
              different d h = cc h

  pub turns_by_sums : Turns live next gone come i
  turns_by_sums = record {
    homes = home;
    counts = λ e. omega (arith, sums (λ p. cond (p.0.entity.0 == e) 1 0), counted_is (λ p. p.0.entity.0 == e) next, counted_is (λ p. p.0.entity.0 == e) gone, counted_is (λ p. p.0.entity.0 == e) live, counted_is (λ p. p.0.entity.0 == e) come);
    total = omega (arith, sums (λ _. 1), weigh_ones next, weigh_ones gone, weigh_ones live, weigh_ones come);
    lived = gone_live;
    went = gone_dead;
    new = new;
    stays = stay;
  }

-- a name that is left is one of the names, and none of the others
left_name : (n : List ℕ) (names others : Names) → list_any (is_text n) (names_without names others) ≡ true → (list_any (is_text n) names ≡ true) × (list_any (is_text n) others ≡ false)
left_name n [] others h = absurd (true≢false (sym h))
left_name n (k ∷ names) others h =
    elim (list_any (is_text k) others) as (λ b. list_any (is_text k) others ≡ b → list_any (is_text n) (cond (not b) (k ∷ names_without names others) (names_without names others)) ≡ true → (list_any (is_text n) (k ∷ names) ≡ true) × (list_any (is_text n) others ≡ false)) [
      | true ↦ λ _ g. let r = left_name n names others g in (or_right (is_text n k) _ r.0, r.1)
      | false ↦ λ none g. elim (is_text n k) as (λ b. is_text n k ≡ b → (b || list_any (is_text n) (names_without names others)) ≡ true → ((b || list_any (is_text n) names) ≡ true) × (list_any (is_text n) others ≡ false)) [
        | true ↦ λ e _. (refl, ap (λ m. list_any (is_text m) others) (text_is n k e) ∙ none)
        | false ↦ λ _ f. left_name n names others f
      ] refl g
    ] refl h

-- what is among instances of these names has one of them
among_named : (x : InstanceId) (e : ℕ) (i : InstanceId) (ns : Names) → is_among (in_container e i ns) x ≡ true → (x ≡ named e x.name) × (list_any (is_text x.name) ns ≡ true)
among_named x e i [] h = absurd (true≢false (sym h))
among_named x e i (n ∷ ns) h =
    elim (is_same x (named e n)) as (λ b. is_same x (named e n) ≡ b → (b || is_among (in_container e i ns) x) ≡ true → (x ≡ named e x.name) × (list_any (is_text x.name) (n ∷ ns) ≡ true)) [
      | true ↦ λ p _.
          let same = same_is x (named e n) p in
          let name : x.name ≡ n = ap (λ (j : InstanceId). j.name) same in
          (same ∙ ap (named e) (sym name), or_left (is_text x.name n) _ (subst (λ m. is_text x.name m ≡ true) name (text_itself x.name)))
      | false ↦ λ _ g. let r = among_named x e i ns g in (r.0, or_right (is_text x.name n) _ r.1)
    ] refl h

all_named : (P : InstanceId × InstanceId → Type 0) (e : ℕ) (i : InstanceId) (ns : Names) → ((n : List ℕ) → list_any (is_text n) ns ≡ true → P (named e n, i)) → AllByRecursion P (in_container e i ns)
all_named P e i [] f = tt
all_named P e i (n ∷ ns) f = (f n (or_left (is_text n n) _ (text_itself n)), all_named P e i ns (λ k h. f k (or_right (is_text k n) _ h)))

-- the instances in one container stand in it
in_one : (x : InstanceId) (e : ℕ) (i : InstanceId) (ns : Names) → paired x i (in_container e i ns) ≡ occurs x (in_container e i ns)
in_one x e i [] = refl
in_one x e i (n ∷ ns) =
    let one : unit (is_same i i) ≡ 1 = ap unit (same_itself i) in
    let here : cond (is_same x (named e n)) (unit (is_same i i)) 0 ≡ unit (is_same x (named e n)) = ap (λ k. cond (is_same x (named e n)) k 0) one in
    omega (arith, here, in_one x e i ns)

-- A case that fits, and lists that differ from its own at one container alone.
module _ (s : Shape) (ruled : List Bool) (shape : IsShape s) (c : CaseView) (r : RelId) (i : InstanceId) (names : Names) (fits : Fits s ruled c)
    (con : s.contains r ≡ true) (placed : is_misplaced s c r i ≡ false)
    (m : FinMap cell_cmp Names) (becomes : unwrap_or (get m (r.0, i)) [] ≡ names)
    (others : (q : RelId) (j : InstanceId) → ((q ≡ r) × (j ≡ i) → ⊥) → get m (q.0, j) ≡ get c.lists (q.0, j))
    (distinct : are_names names ≡ true)
    (free : (n : List ℕ) → list_any (is_text n) names ≡ true → stands_elsewhere c.live i (named (s.target r) n) ≡ false) where
  abbrev l : Lists
  l = stored c.lists

  abbrev t : ℕ
  t = s.target r

  abbrev old : Names
  old = unwrap_or (l r i) []

  abbrev live : Population
  live = live_of s l

  abbrev goes : Population
  goes = leaving s l r i names

  abbrev comes : Population
  comes = coming s l r i names

  inside : (0 < t) × (t < s.count)
  inside = shape.target_in r con

  owner : i.entity.0 ≡ s.source r
  owner = exact_unsigned_eq i.entity.0 (s.source r) (not-false _ (or_parts _ _ placed).1)

  parent : i.entity.0 ≡ s.parent t
  parent = owner ∙ ap s.source (shape.no_other r con) ∙ shape.source t inside.0 inside.1

  was_live : is_live live i ≡ true
  was_live = subst (λ (xs : Population). is_live xs i ≡ true) fits.live (not-false _ (or_parts _ _ (or_parts _ _ placed).0).1)

  old_names : are_names old ≡ true
  old_names = ap (λ q. are_names (unwrap_or (l q i) [])) (shape.no_other r con) ∙ are_listed s shape c.lists fits.sound t i

  once_live : (n : ℕ) → n < s.count → (x : InstanceId) → occurs x (live_upto s l n) ≤ 1
  once_live n lt x = once_upto s shape c.lists fits.sound n lt x

  -- the container stands among the members of the parent entity, once
  stands_once : times i (members (s.parent t) (live_upto s l (t - 1))) ≡ 1
  stands_once =
      let early = shape.earlier t inside.0 inside.1 in
      let some : list_any (is_same i) (members (s.parent t) (live_upto s l (t - 1))) ≡ true = subst (λ p. list_any (is_same i) (members p (live_upto s l (t - 1))) ≡ true) parent (in_members s l (t - 1) (s.count - 1) i (omega (arith, inside.1)) (omega (arith, parent, early)) was_live) in
      omega (arith, counted_some (is_same i) (members (s.parent t) (live_upto s l (t - 1))) some, once_member i (s.parent t) (live_upto s l (t - 1)) (once_live (t - 1) (omega (arith, inside.1)) i))

  -- what comes wasn't live
  not_before : (n : List ℕ) → list_any (is_text n) (names_without names old) ≡ true → is_live live (named t n) ≡ false
  not_before n h = false_from_ne_true (is_live live (named t n)) (λ alive.
      let left = left_name n names old h in
      let f = container_found s l (named t n) inside.0 alive in
      let same : i ≡ f.0 = not_elsewhere c.live i f.0 (named t n) (ap (λ (xs : Population). container_of xs (named t n)) fits.live ∙ f.1) (free n left.0) in
      let known : l r i ≡ Some f.2.names = ap (λ q. l q i) (shape.no_other r con) ∙ ap (l (s.contained t)) same ∙ f.2.known in
      true≢false (sym f.2.listed ∙ ap (λ o. list_any (is_text n) (unwrap_or o [])) (sym known) ∙ left.1))

  unknown_before : (n : List ℕ) → list_any (is_text n) (names_without names old) ≡ true → (q : RelId) → l q (named t n) ≡ None
  unknown_before n h q = none_by (l q (named t n)) (λ ns at. true≢false (sym (subst (λ (xs : Population). is_live xs (named t n) ≡ true) fits.live (fits.listed q (named t n) ns at)) ∙ not_before n h))

  module _ (n : ℕ) (at : n ≡ t - 1) where
    abbrev fresh : Population
    fresh = in_container (suc n) i (names_without names old)

    same_t : suc n ≡ t
    same_t = omega (arith, at, inside.0)

    relation : s.contained (suc n) ≡ r
    relation = ap s.contained same_t ∙ sym (shape.no_other r con)

    there : times i (members (s.parent (suc n)) (live_upto s l n)) ≡ 1
    there = ap (λ k. times i (members (s.parent k) (live_upto s l n))) same_t ∙ ap (λ k. times i (members (s.parent t) (live_upto s l k))) at ∙ stands_once

    was : unwrap_or (l (s.contained (suc n)) i) [] ≡ old
    was = ap (λ q. unwrap_or (l q i) []) relation

    unknown : AllByRecursion (λ x. (q : RelId) → l q x.0 ≡ None) fresh
    unknown = subst (λ e. AllByRecursion (λ (x : InstanceId × InstanceId). (q : RelId) → l q x.0 ≡ None) (in_container e i (names_without names old))) (sym same_t) (all_named (λ x. (q : RelId) → l q x.0 ≡ None) t i (names_without names old) unknown_before)

    agree : (e : ℕ) (d : InstanceId) → 0 < e → e < s.count → (e ≡ suc n → ⊥) → l (s.contained e) d ≡ stored m (s.contained e) d
    agree e d pos lt apart = sym (others (s.contained e) d (λ same. apart (sym (shape.target e pos lt) ∙ ap s.target same.0 ∙ sym same_t)))

    beside : (d : InstanceId) → is_same i d ≡ false → l (s.contained (suc n)) d ≡ stored m (s.contained (suc n)) d
    beside d other = sym (others (s.contained (suc n)) d (λ same. true≢false (sym (same_itself i) ∙ ap (is_same i) (sym same.1) ∙ other)))

    now : unwrap_or (stored m (s.contained (suc n)) i) [] ≡ names
    now = ap (λ q. unwrap_or (stored m q i) []) relation ∙ becomes

    sums_at : (w : InstanceId × InstanceId → ℕ) → weigh w (live_of s (stored m)) + weigh w goes ≡ weigh w live + weigh w comes
    sums_at w = subst (λ e. weigh w (live_of s (stored m)) + weigh w (gone_upto s l e (in_container e i (names_without old names)) (s.count - 1)) ≡ weigh w live + weigh w (in_container e i (names_without names old))) same_t
        (balanced s l (stored m) n i old names was there agree beside now old_names distinct unknown (s.count - 1 - suc n) (s.count - 1) (omega (arith, same_t, inside.1)) (omega (arith, shape.some)) w)

    less_at : (w : InstanceId × InstanceId → ℕ) → weigh w goes ≤ weigh w live
    less_at w = subst (λ e. weigh w (gone_upto s l e (in_container e i (names_without old names)) (s.count - 1)) ≤ weigh w live) same_t
        (gone_less s l (stored m) n i old names was there (s.count - 1 - suc n) (s.count - 1) (omega (arith, same_t, inside.1)) w)

  come_new : (x : InstanceId) → is_among comes x ≡ true → is_live live x ≡ false
  come_new x h = let a = among_named x t i (names_without names old) h in ap (is_live live) a.0 ∙ not_before x.name a.1

  come_once : (x : InstanceId) → occurs x comes ≤ 1
  come_once x =
      let w : InstanceId × InstanceId → ℕ = λ p. cond (is_same x p.0) 1 0 in
      omega (arith, weigh-map w (λ n. (named t n, i)) names, weigh-map w (λ n. (named t n, i)) (names_without names old), without_less (λ n. w (named t n, i)) names old, occurs_named x t i names distinct, bound (x.entity.0 == t) (list_any (is_text x.name) names))
    where
      bound : (a b : Bool) → cond a (cond b 1 0) 0 ≤ 1
      bound true true = omega arith
      bound true false = omega arith
      bound false b = omega arith

  both_once : (x : InstanceId) → occurs x live + occurs x comes ≤ 1
  both_once x = go (is_among comes x) refl
    where
      go : (b : Bool) → is_among comes x ≡ b → occurs x live + occurs x comes ≤ 1
      go true h = omega (arith, come_once x, counted_none (λ p. is_same x p.0) live (or_parts _ _ (come_new x h)).1)
      go false h = omega (arith, once_live (s.count - 1) (omega (arith, shape.some)) x, counted_none (λ p. is_same x p.0) comes h)

  no_global : occurs global live ≡ 0
  no_global = counted_none (λ p. is_same global p.0) live (false_from_ne_true (list_any (λ p. is_same global p.0) live) (λ h. let f = lookup_found (is_same global) live h in omega (arith, (in_upto s l (s.count - 1) global f.0 f.1).0)))

  come_inside : (x : InstanceId) → is_among comes x ≡ true → 0 < paired x i comes
  come_inside x h = omega (arith, in_one x t i (names_without names old), counted_some (λ p. is_same x p.0) comes h)

  list_turns : Turns c.live (live_of s (stored m)) (leaving s (stored c.lists) r i names) (coming s (stored c.lists) r i names) i
  list_turns = subst (λ (xs : Population). Turns xs (live_of s (stored m)) goes comes i) (sym fits.live)
      (turns_by_sums live (live_of s (stored m)) goes comes i (sums_at (t - 1) refl) (less_at (t - 1) refl) both_once no_global come_new come_inside)

other_key : (q : RelId) (j : InstanceId) (r : RelId) (i : InstanceId) → ((q ≡ r) × (j ≡ i) → ⊥) → eq_by_cmp cell_cmp (q.0, j) (r.0, i) ≡ false
other_key q j r i apart = false_from_ne_true (eq_by_cmp cell_cmp (q.0, j) (r.0, i)) (λ h. let k = tells_apart cell_exact (q.0, j) (r.0, i) h in apart (ap (λ (x : ℕ × InstanceId). rel x.0) k, ap (λ (x : ℕ × InstanceId). x.1) k))

-- A containment list that is set.
pub set_turns : (s : Shape) (ruled : List Bool) → IsShape s → (c : CaseView) (r : RelId) (i : InstanceId) (names : Names) → s.contains r ≡ true → Fits s ruled c → list_fault s c r i names ≡ None
    → Turns c.live (live_of s (stored (insert c.lists (r.0, i) names))) (leaving s (stored c.lists) r i names) (coming s (stored c.lists) r i names) i
set_turns s ruled shape c r i names con fits fine =
    let p = tests_passed s c r i names fine in
    list_turns s ruled shape c r i names fits con p.placed (insert c.lists (r.0, i) names)
    (ap (λ o. unwrap_or o []) (get-insert cell_total c.lists (r.0, i) names (r.0, i) ∙ ap (λ b. cond b (Some names) (get c.lists (r.0, i))) ((eq_by_cmp_equiv cell_total).refl (r.0, i))))
    (λ q j apart. get-insert cell_total c.lists (r.0, i) names (q.0, j) ∙ ap (λ b. cond b (Some names) (get c.lists (q.0, j))) (other_key q j r i apart))
    p.names
    (λ n is. ap (λ b. cond b (stands_elsewhere c.live i (named (s.target r) n)) (not (is_live c.live (named (s.target r) n)))) (sym con) ∙ passes (cant_name s c r i) (is_text n) n (λ y h. sym (text_is n y h)) names p.free is)

-- A containment list that is forgotten.
pub forget_turns : (s : Shape) (ruled : List Bool) → IsShape s → (c : CaseView) (r : RelId) (i : InstanceId) → s.contains r ≡ true → Fits s ruled c → is_misplaced s c r i ≡ false
    → Turns c.live (live_of s (stored (remove c.lists (r.0, i)))) (leaving s (stored c.lists) r i []) [] i
forget_turns s ruled shape c r i con fits placed =
    list_turns s ruled shape c r i [] fits con placed (remove c.lists (r.0, i))
    (ap (λ o. unwrap_or o []) (get-remove cell_total c.lists (r.0, i) (r.0, i) ∙ ap (λ b. cond b None (get c.lists (r.0, i))) ((eq_by_cmp_equiv cell_total).refl (r.0, i))))
    (λ q j apart. get-remove cell_total c.lists (r.0, i) (q.0, j) ∙ ap (λ b. cond b None (get c.lists (q.0, j))) (other_key q j r i apart))
    refl
    (λ n is. absurd (true≢false (sym is)))
