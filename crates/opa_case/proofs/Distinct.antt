-- Each instance lives once.
use Rattle.std.specs.Prelude.{◌≡◌, ◌≤◌, ◌<◌, ◌+◌, ◌==◌, ℕ, zero, suc, Bool, true, false, cond, List, [], ◌∷◌, Option, Some, None, map, filter, flat_map, unwrap_or, refl}
use Rattle.std.specs.List.{list_any}
use Rattle.std.specs.FinMap.{FinMap}
use Rattle.std.proofs.Common.{arith, ap, sym, subst, ◌∙◌, eq-eqb}
use Rattle.std.proofs.lemmas.Map.Views.{exact_unsigned_eq}
use mathlib.Core.Bool.{true≢false}
use Rattle.opa_cells.specs.declared.instance.InstanceId.{InstanceId}
use Rattle.opa_cells.specs.Keys.{cell_cmp}
use Rattle.opa_cells.specs.Instances.{is_same, is_text, global, named}
use Rattle.opa_cells.proofs.Orders.{same_is}
use Rattle.opa_case.specs.Shapes.{Shape, IsShape}
use Rattle.opa_case.specs.Live.{Names, Lists, Population, members, in_container, held, live_upto}
use Rattle.opa_case.specs.Cases.{are_names, stored}
use Rattle.opa_case.specs.Fits.{AreSound}
use Rattle.opa_case.proofs.Lively.{live_none}
use Rattle.opa_case.proofs.Stands.{lookup_found, in_upto, text_itself}
use Rattle.opa_case.proofs.Weighing.{weigh, unit, weigh-append, weigh-flat, weigh-map, weigh_same, weigh_less, weigh_one, weigh_of, some_counted, once_listed, occurs, of_parent, times}

-- what becomes live with one more entity
pub live_weight : (s : Shape) (l : Lists) (k : ℕ) (w : InstanceId × InstanceId → ℕ) → weigh w (live_upto s l (suc k)) ≡ weigh w (live_upto s l k) + weigh (λ c. weigh w (held s l (suc k) c)) (members (s.parent (suc k)) (live_upto s l k))
unfolding live_upto
live_weight s l k w =
    weigh-append w (live_upto s l k) (flat_map (held s l (suc k)) (members (s.parent (suc k)) (live_upto s l k)))
    ∙ ap (λ n. weigh w (live_upto s l k) + n) (weigh-flat w (held s l (suc k)) (members (s.parent (suc k)) (live_upto s l k)))

-- an instance of this entity with a name that is listed once
pub occurs_named : (x : InstanceId) (e : ℕ) (c : InstanceId) (ns : Names) → are_names ns ≡ true → occurs x (in_container e c ns) ≤ cond (x.entity.0 == e) (cond (list_any (is_text x.name) ns) 1 0) 0
occurs_named x e c ns distinct =
    let over = weigh-map (λ (p : InstanceId × InstanceId). cond (is_same x p.0) 1 0) (λ n. (named e n, c)) ns in
    let once = once_listed x.name 1 ns distinct in
    elim (x.entity.0 == e) as (λ b. (x.entity.0 == e) ≡ b → occurs x (in_container e c ns) ≤ cond b (cond (list_any (is_text x.name) ns) 1 0) 0) [
      | true ↦ λ _. omega (arith, over, once, weigh_less (λ n. cond (is_same x (named e n)) 1 0) (λ n. cond (is_text x.name n) 1 0) named_alike ns)
      | false ↦ λ other. omega (arith, over, weigh_same (λ n. cond (is_same x (named e n)) 1 0) (λ n. 0) (apart other) ns, no_weight ns)
    ] refl
  where
    named_alike : (n : List ℕ) → cond (is_same x (named e n)) 1 0 ≤ cond (is_text x.name n) 1 0
    named_alike n = elim (is_same x (named e n)) as (λ b. is_same x (named e n) ≡ b → cond b 1 0 ≤ cond (is_text x.name n) 1 0) [
      | true ↦ λ p. let one : unit (is_text x.name n) ≡ 1 = ap unit (subst (λ m. is_text x.name m ≡ true) (ap (λ (j : InstanceId). j.name) (same_is x (named e n) p)) (text_itself x.name)) in omega (arith, one)
      | false ↦ λ _. omega arith
    ] refl

    apart : (x.entity.0 == e) ≡ false → (n : List ℕ) → unit (is_same x (named e n)) ≡ 0
    apart other n = elim (is_same x (named e n)) as (λ b. is_same x (named e n) ≡ b → unit b ≡ 0) [
      | true ↦ λ p. absurd (true≢false (sym (eq-eqb x.entity.0 e (ap (λ (j : InstanceId). j.entity.0) (same_is x (named e n) p))) ∙ other))
      | false ↦ λ _. refl
    ] refl

    no_weight : (ns : Names) → weigh (λ n. 0) ns ≡ 0
    no_weight [] = refl
    no_weight (n ∷ ns) = omega (arith, no_weight ns)

-- no member of an entity is told twice
pub once_member : (c : InstanceId) (p : ℕ) (xs : Population) → occurs c xs ≤ 1 → times c (members p xs) ≤ 1
once_member c p xs once = elim (p == 0) as (λ b. times c (cond b (global ∷ []) (map (λ x. x.0) (filter (λ x. x.0.entity.0 == p) xs))) ≤ 1) [
  | true ↦ one_at_most (is_same c global)
  | false ↦ omega (arith, weigh_of (λ d. cond (is_same c d) 1 0) p xs, weigh_less (of_parent p (λ d. cond (is_same c d) 1 0)) (λ x. cond (is_same c x.0) 1 0) (λ x. part (x.0.entity.0 == p) (cond (is_same c x.0) 1 0)) xs, once)
]
  where
    one_at_most : (b : Bool) → unit b + 0 ≤ 1
    one_at_most true = omega arith
    one_at_most false = omega arith

    part : (b : Bool) (n : ℕ) → cond b n 0 ≤ n
    part true n = omega arith
    part false n = omega arith

module _ (s : Shape) (shape : IsShape s) (m : FinMap cell_cmp Names) (sound : AreSound s m) where
  abbrev pub known : Lists
  known = stored m

  -- the names of a list, known or not
  abbrev pub names_at : ℕ → InstanceId → Names
  names_at e c = unwrap_or (known (s.contained e) c) []

  pub are_listed : (e : ℕ) (c : InstanceId) → are_names (names_at e c) ≡ true
  are_listed e c = go (known (s.contained e) c) refl
    where
      go : (o : Option Names) → known (s.contained e) c ≡ o → are_names (unwrap_or o []) ≡ true
      go None at = refl
      go (Some ns) at = sound.names (s.contained e) c ns at

  one_container : (e : ℕ) (c d : InstanceId) (n : List ℕ) → 0 < e → e < s.count → list_any (is_text n) (names_at e c) ≡ true → list_any (is_text n) (names_at e d) ≡ true → c ≡ d
  one_container e c d n pos lt = go (known (s.contained e) c) refl (known (s.contained e) d) refl
    where
      go : (o : Option Names) → known (s.contained e) c ≡ o → (p : Option Names) → known (s.contained e) d ≡ p → list_any (is_text n) (unwrap_or o []) ≡ true → list_any (is_text n) (unwrap_or p []) ≡ true → c ≡ d
      go None at p at' h g = absurd (true≢false (sym h))
      go (Some ns) at None at' h g = absurd (true≢false (sym g))
      go (Some ns) at (Some ms) at' h g = sound.once (s.contained e) c d ns ms n (shape.contains e pos lt) at at' h g

  in_block : (e : ℕ) (x c : InstanceId) → occurs x (held s known e c) ≤ cond (x.entity.0 == e) (cond (list_any (is_text x.name) (names_at e c)) 1 0) 0
  in_block e x c = occurs_named x e c (names_at e c) (are_listed e c)

  block_once : (e : ℕ) (x : InstanceId) (cs : List InstanceId) → 0 < e → e < s.count → ((c : InstanceId) → times c cs ≤ 1) → weigh (λ c. occurs x (held s known e c)) cs ≤ 1
  block_once e x cs pos lt once = weigh_one (λ c. occurs x (held s known e c)) cs
      (λ c. light (x.entity.0 == e) (list_any (is_text x.name) (names_at e c)) (in_block e x c))
      (λ c d p q. one_container e c d x.name pos lt (listed (x.entity.0 == e) (list_any (is_text x.name) (names_at e c)) (in_block e x c) p) (listed (x.entity.0 == e) (list_any (is_text x.name) (names_at e d)) (in_block e x d) q))
      once
    where
      light : {n : ℕ} (a b : Bool) → n ≤ cond a (cond b 1 0) 0 → n ≤ 1
      light true true h = h
      light true false h = omega (arith, h)
      light false b h = omega (arith, h)

      listed : {n : ℕ} (a b : Bool) → n ≤ cond a (cond b 1 0) 0 → 0 < n → b ≡ true
      listed true true h p = refl
      listed true false h p = absurd (omega (arith, h, p))
      listed false b h p = absurd (omega (arith, h, p))

  block_apart : (e : ℕ) (x : InstanceId) (cs : List InstanceId) → (x.entity.0 == e) ≡ false → weigh (λ c. occurs x (held s known e c)) cs ≡ 0
  block_apart e x [] other = refl
  block_apart e x (c ∷ cs) other =
      let none : cond (x.entity.0 == e) (unit (list_any (is_text x.name) (names_at e c))) 0 ≡ 0 = ap (λ b. cond b (unit (list_any (is_text x.name) (names_at e c))) 0) other in
      omega (arith, none, in_block e x c, block_apart e x cs other)

  early : (n : ℕ) (x : InstanceId) → 0 < occurs x (live_upto s known n) → x.entity.0 ≤ n
  early n x h = let f = lookup_found (is_same x) (live_upto s known n) (some_counted (λ p. is_same x p.0) (live_upto s known n) h) in (in_upto s known n x f.0 f.1).1

  pub once_upto : (n : ℕ) → n < s.count → (x : InstanceId) → occurs x (live_upto s known n) ≤ 1
  once_upto zero lt x = let none : 0 ≡ occurs x (live_upto s known 0) = ap (occurs x) (live_none s known) in omega (arith, none)
  once_upto (suc n) lt x =
      let before = once_upto n (omega (arith, lt)) in
      let cs = members (s.parent (suc n)) (live_upto s known n) in
      let whole : occurs x (live_upto s known (suc n)) ≡ occurs x (live_upto s known n) + weigh (λ c. occurs x (held s known (suc n) c)) cs = live_weight s known n (λ p. cond (is_same x p.0) 1 0) in
      let block = block_once (suc n) x cs (omega arith) lt (λ c. once_member c (s.parent (suc n)) (live_upto s known n) (before c)) in
      elim (x.entity.0 == suc n) as (λ b. (x.entity.0 == suc n) ≡ b → occurs x (live_upto s known (suc n)) ≤ 1) [
        | true ↦ λ e. go (occurs x (live_upto s known n)) refl (exact_unsigned_eq x.entity.0 (suc n) e) whole block
        | false ↦ λ other. omega (arith, whole, before x, block_apart (suc n) x cs other)
      ] refl
    where
      go : (k : ℕ) → occurs x (live_upto s known n) ≡ k → x.entity.0 ≡ suc n → {a b : ℕ} → a ≡ occurs x (live_upto s known n) + b → b ≤ 1 → a ≤ 1
      go zero at e whole block = omega (arith, at, whole, block)
      go (suc k) at e whole block = absurd (omega (arith, e, early n x (omega (arith, at))))
