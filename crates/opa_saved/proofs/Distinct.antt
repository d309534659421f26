-- No instance is live twice.
use Rattle.std.proofs.Common.{◌≡◌, ◌≤◌, ◌<◌, ◌-◌, ◌==◌, ℕ, zero, suc, Bool, true, false, cond, List, [], ◌∷◌, ◌++◌, map, arith, refl, sym, ap, subst, ◌∙◌}
use Rattle.std.specs.Prelude.{Option, None, Some, filter, flat_map, not, ◌||◌, ◌&&◌}
use Rattle.std.specs.List.{list_any, AllByRecursion}
use Rattle.std.proofs.lemmas.Bool.{and_parts, or_parts, false_from_ne_true as by_cases, or_right, or_left, or_from}
use Rattle.std.proofs.lemmas.List.Folds.{list_any-append}
use mathlib.Core.Bool.{true≢false}
use Rattle.opa_io.proofs.Bools.{never_both}
use Rattle.opa_io.proofs.Lists.{map_append}
use Rattle.opa_cells.specs.declared.instance.InstanceId.{InstanceId}
use Rattle.opa_cells.specs.Instances.{is_same, is_text, global, named}
use Rattle.opa_cells.proofs.Orders.{same_is, same_itself}
use Rattle.opa_case.specs.Shapes.{Shape}
use Rattle.opa_case.specs.Live.{Names, Lists, Population, members, in_container, held, held_names, live_upto, live_of}
use Rattle.opa_case.specs.Cases.{are_names, is_empty}
use Rattle.opa_case.proofs.Stands.{text_itself}

-- whether the instance is among these
abbrev pub among : InstanceId → List InstanceId → Bool
among i is = list_any (is_same i) is

abbrev pub Distinct : List InstanceId → Type 0
Distinct [] = Unit {0}
Distinct (i ∷ is) = (among i is ≡ false) × Distinct is

abbrev firsts : Population → List InstanceId
firsts pop = map (λ p. p.0) pop

distinct_append : (xs ys : List InstanceId) → Distinct xs → Distinct ys → AllByRecursion (λ x. among x ys ≡ false) xs → Distinct (xs ++ ys)
distinct_append [] ys h g a = g
distinct_append (x ∷ xs) ys h g a = (list_any-append (is_same x) xs ys ∙ or_from (among x xs) (among x ys) h.0 a.0, distinct_append xs ys h.1 g a.1)

-- ---- some of them

filter_none : (p : InstanceId × InstanceId → Bool) (i : InstanceId) (pop : Population) → among i (firsts pop) ≡ false → among i (firsts (filter p pop)) ≡ false
filter_none p i [] h = refl
filter_none p i (x ∷ xs) h =
    let g = or_parts (is_same i x.0) (among i (firsts xs)) h in
    elim (p x) as (λ b. among i (firsts (cond b (x ∷ filter p xs) (filter p xs))) ≡ false) [
      | true ↦ or_from (is_same i x.0) _ g.0 (filter_none p i xs g.1)
      | false ↦ filter_none p i xs g.1
    ]

distinct_filter : (p : InstanceId × InstanceId → Bool) (pop : Population) → Distinct (firsts pop) → Distinct (firsts (filter p pop))
distinct_filter p [] h = tt
distinct_filter p (x ∷ xs) h = elim (p x) as (λ b. Distinct (firsts (cond b (x ∷ filter p xs) (filter p xs)))) [
  | true ↦ (filter_none p x.0 xs h.0, distinct_filter p xs h.1)
  | false ↦ distinct_filter p xs h.1
]

pub distinct_members : (e : ℕ) (pop : Population) → Distinct (firsts pop) → Distinct (members e pop)
distinct_members e pop h = elim (e == 0) as (λ b. Distinct (cond b (global ∷ []) (firsts (filter (λ p. p.0.entity.0 == e) pop)))) [
  | true ↦ (refl, tt)
  | false ↦ distinct_filter (λ p. p.0.entity.0 == e) pop h
]

-- ---- names in one container

firsts_in : (e : ℕ) (c : InstanceId) (ns : Names) → firsts (in_container e c ns) ≡ map (named e) ns
firsts_in e c [] = refl
firsts_in e c (n ∷ ns) = ap (λ is. named e n ∷ is) (firsts_in e c ns)

named_none : (e : ℕ) (n : List ℕ) (ns : Names) → list_any (is_text n) ns ≡ false → among (named e n) (map (named e) ns) ≡ false
named_none e n [] h = refl
named_none e n (k ∷ ks) h =
    let g = or_parts (is_text n k) (list_any (is_text n) ks) h in
    or_from (is_same (named e n) (named e k)) (among (named e n) (map (named e) ks))
    (by_cases (is_same (named e n) (named e k)) (λ t. never_both (is_text n k) (subst (λ x. is_text n x ≡ true) (ap (λ (i : InstanceId). i.name) (same_is (named e n) (named e k) t)) (text_itself n)) g.0))
    (named_none e n ks g.1)

distinct_names : (e : ℕ) (ns : Names) → are_names ns ≡ true → Distinct (map (named e) ns)
distinct_names e [] h = tt
distinct_names e (n ∷ ns) h =
    let a = and_parts (not (is_empty n) && not (list_any (is_text n) ns)) (are_names ns) h in
    let b = and_parts (not (is_empty n)) (not (list_any (is_text n) ns)) a.0 in
    (named_none e n ns (turned (list_any (is_text n) ns) b.1), distinct_names e ns a.1)
  where
    turned : (b : Bool) → not b ≡ true → b ≡ false
    turned true e = absurd (true≢false (sym e))
    turned false e = refl

-- ---- names in several containers

-- lists of an entity's containers: none has a name twice, and no two of them have one name
pub record AreApart (s : Shape) (l : Lists) : Type 0 where
  pub names : (e : ℕ) (c : InstanceId) (ns : Names) → 0 < e → e < s.count → l (s.contained e) c ≡ Some ns → are_names ns ≡ true
  pub once : (e : ℕ) (c d : InstanceId) (ns ms : Names) (n : List ℕ) → 0 < e → e < s.count → l (s.contained e) c ≡ Some ns → l (s.contained e) d ≡ Some ms → list_any (is_text n) ns ≡ true → list_any (is_text n) ms ≡ true → c ≡ d

module _ (s : Shape) (l : Lists) (apart : AreApart s l) (e : ℕ) (pos : 0 < e) (lt : e < s.count) where
  -- a name that a container has
  abbrev HasName : InstanceId → List ℕ → Type 0
  HasName c n = (ns : Names) × (l (s.contained e) c ≡ Some ns) × (list_any (is_text n) ns ≡ true)

  named_in : (i : InstanceId) (ns : Names) → among i (map (named e) ns) ≡ true → (i.entity.0 ≡ e) × (list_any (is_text i.name) ns ≡ true)
  named_in i [] h = absurd (true≢false (sym h))
  named_in i (n ∷ ns) h = elim (is_same i (named e n)) as (λ b. is_same i (named e n) ≡ b → (b || among i (map (named e) ns)) ≡ true → (i.entity.0 ≡ e) × ((is_text i.name n || list_any (is_text i.name) ns) ≡ true)) [
    | true ↦ λ t _. let q = same_is i (named e n) t in (ap (λ (j : InstanceId). j.entity.0) q, or_left (is_text i.name n) _ (subst (λ m. is_text i.name m ≡ true) (ap (λ (j : InstanceId). j.name) q) (text_itself i.name)))
    | false ↦ λ _ g. let r = named_in i ns g in (r.0, or_right (is_text i.name n) _ r.1)
  ] refl h

  -- the instance is held by one of these containers
  held_in : (c : InstanceId) (i : InstanceId) → among i (firsts (held s l e c)) ≡ true → (i.entity.0 ≡ e) × HasName c i.name
  held_in c i h = go (l (s.contained e) c) refl h
    where
      go : (o : Option Names) → l (s.contained e) c ≡ o → among i (firsts (held_names e c o)) ≡ true → (i.entity.0 ≡ e) × HasName c i.name
      go None is g = absurd (true≢false (sym g))
      go (Some ns) is g = let r = named_in i ns (ap (among i) (sym (firsts_in e c ns)) ∙ g) in (r.0, (ns, is, r.1))

  found_in : (i : InstanceId) (cs : List InstanceId) → among i (firsts (flat_map (held s l e) cs)) ≡ true → (d : InstanceId) × (among d cs ≡ true) × (i.entity.0 ≡ e) × HasName d i.name
  found_in i [] h = absurd (true≢false (sym h))
  found_in i (c ∷ cs) h = go (among i (firsts (held s l e c))) refl (sym (ap (among i) (map_append (λ p. p.0) (held s l e c) (flat_map (held s l e) cs)) ∙ list_any-append (is_same i) (firsts (held s l e c)) (firsts (flat_map (held s l e) cs))) ∙ h) (λ g. found_in i cs g)
    where
      go : (b : Bool) → among i (firsts (held s l e c)) ≡ b → (among i (firsts (held s l e c)) || among i (firsts (flat_map (held s l e) cs))) ≡ true
          → (among i (firsts (flat_map (held s l e) cs)) ≡ true → (d : InstanceId) × (among d cs ≡ true) × (i.entity.0 ≡ e) × HasName d i.name)
          → (d : InstanceId) × ((is_same d c || among d cs) ≡ true) × (i.entity.0 ≡ e) × HasName d i.name
      go true t g rest = let r = held_in c i t in (c, or_left (is_same c c) _ (same_itself c), r.0, r.1)
      go false t g rest = let r = rest (subst (λ b. (b || among i (firsts (flat_map (held s l e) cs))) ≡ true) t g) in (r.0, or_right (is_same r.0 c) _ r.1, r.2, r.3)

  distinct_held : (c : InstanceId) → Distinct (firsts (held s l e c))
  distinct_held c = go (l (s.contained e) c) refl
    where
      go : (o : Option Names) → l (s.contained e) c ≡ o → Distinct (firsts (held_names e c o))
      go None is = tt
      go (Some ns) is = subst Distinct (sym (firsts_in e c ns)) (distinct_names e ns (apart.names e c ns pos lt is))

  -- what one container holds is among none of the others
  others_none : (c : InstanceId) (cs : List InstanceId) → among c cs ≡ false → (is : List InstanceId) → ((i : InstanceId) → among i is ≡ true → among i (firsts (held s l e c)) ≡ true) → AllByRecursion (λ i. among i (firsts (flat_map (held s l e) cs)) ≡ false) is
  others_none c cs h [] sub = tt
  others_none c cs h (i ∷ is) sub = (
    by_cases (among i (firsts (flat_map (held s l e) cs))) (λ t.
        let a = held_in c i (sub i (or_left (is_same i i) _ (same_itself i))) in
        let b = found_in i cs t in
        let one : c ≡ b.0 = apart.once e c b.0 a.1.0 b.3.0 i.name pos lt a.1.1 b.3.1 a.1.2 b.3.2 in
        never_both (among c cs) (subst (λ d. among d cs ≡ true) (sym one) b.1) h),
    others_none c cs h is (λ j g. sub j (or_right (is_same j i) _ g)),
  )

  distinct_block : (cs : List InstanceId) → Distinct cs → Distinct (firsts (flat_map (held s l e) cs))
  distinct_block [] h = tt
  distinct_block (c ∷ cs) h =
      subst Distinct (sym (map_append (λ p. p.0) (held s l e c) (flat_map (held s l e) cs)))
      (distinct_append (firsts (held s l e c)) (firsts (flat_map (held s l e) cs)) (distinct_held c) (distinct_block cs h.1) (others_none c cs h.0 (firsts (held s l e c)) (λ i g. g)))

module _ (s : Shape) (l : Lists) (apart : AreApart s l) where
  -- all that is live up to an entity is of it or an earlier one
  early : (n : ℕ) (i : InstanceId) → n < s.count → among i (firsts (live_upto s l n)) ≡ true → i.entity.0 ≤ n
  unfolding live_upto
  early zero i lt h = absurd (true≢false (sym h))
  early (suc n) i lt h =
      go (among i (firsts (live_upto s l n))) refl (sym (ap (among i) (map_append (λ p. p.0) (live_upto s l n) _) ∙ list_any-append (is_same i) (firsts (live_upto s l n)) _) ∙ h) (early n i (omega (arith, lt)))
    where
      go : (b : Bool) → among i (firsts (live_upto s l n)) ≡ b → (among i (firsts (live_upto s l n)) || among i (firsts (flat_map (held s l (suc n)) (members (s.parent (suc n)) (live_upto s l n))))) ≡ true → (among i (firsts (live_upto s l n)) ≡ true → i.entity.0 ≤ n) → i.entity.0 ≤ suc n
      go true t g before = omega (arith, before t)
      go false t g before =
          let r = found_in s l apart (suc n) (omega arith) lt i (members (s.parent (suc n)) (live_upto s l n)) (subst (λ b. (b || among i (firsts (flat_map (held s l (suc n)) (members (s.parent (suc n)) (live_upto s l n))))) ≡ true) t g) in
          omega (arith, r.2)

  earlier_none : (n : ℕ) (lt : suc n < s.count) (is : List InstanceId) → ((i : InstanceId) → among i is ≡ true → i.entity.0 ≤ n) → (cs : List InstanceId) → AllByRecursion (λ i. among i (firsts (flat_map (held s l (suc n)) cs)) ≡ false) is
  earlier_none n lt [] sub cs = tt
  earlier_none n lt (i ∷ is) sub cs = (
    by_cases (among i (firsts (flat_map (held s l (suc n)) cs))) (λ t. (let r = found_in s l apart (suc n) (omega arith) lt i cs t in absurd (omega (arith, r.2, sub i (or_left (is_same i i) _ (same_itself i)))))),
    earlier_none n lt is (λ j g. sub j (or_right (is_same j i) _ g)) cs,
  )

  distinct_upto : (n : ℕ) → n < s.count → Distinct (firsts (live_upto s l n))
  unfolding live_upto
  distinct_upto zero lt = tt
  distinct_upto (suc n) lt =
      let before = distinct_upto n (omega (arith, lt)) in
      let cs = members (s.parent (suc n)) (live_upto s l n) in
      subst Distinct (sym (map_append (λ p. p.0) (live_upto s l n) (flat_map (held s l (suc n)) cs)))
      (distinct_append (firsts (live_upto s l n)) (firsts (flat_map (held s l (suc n)) cs)) before
      (distinct_block s l apart (suc n) (omega arith) lt cs (distinct_members (s.parent (suc n)) (live_upto s l n) before))
      (earlier_none n lt (firsts (live_upto s l n)) (λ i g. early n i (omega (arith, lt)) g) cs))

  pub distinct_live : 0 < s.count → Distinct (firsts (live_of s l))
  distinct_live pos = distinct_upto (s.count - 1) (omega (arith, pos))
