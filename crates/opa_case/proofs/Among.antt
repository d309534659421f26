-- Containers are live, and a change of lists of late entities leaves the early ones.
use Rattle.std.specs.Prelude.{◌≡◌, ◌≤◌, ◌<◌, ◌+◌, ◌-◌, ◌==◌, ℕ, zero, suc, true, false, cond, ◌||◌, List, [], ◌∷◌, Some, map, filter, flat_map, unwrap_or, refl}
use Rattle.std.specs.List.{AllByRecursion}
use Rattle.std.specs.Map.{lookup}
use Rattle.std.proofs.Common.{arith, ap, sym, subst, ◌∙◌, ◌⊎◌, inl, inr}
use Rattle.std.proofs.lemmas.Map.Views.{exact_unsigned_eq}
use Rattle.std.proofs.lemmas.Option.{same_Some}
use Rattle.opa_io.proofs.Lists.{each_weaker}
use Rattle.opa_cells.specs.declared.instance.InstanceId.{InstanceId}
use Rattle.opa_cells.specs.Instances.{is_same, global, named}
use Rattle.opa_case.specs.Shapes.{Shape}
use Rattle.opa_case.specs.Live.{Names, Lists, Population, members, held, live_upto, live_of, is_live, container_of}
use Rattle.opa_case.specs.Laws.{LiveByLists}
use Rattle.opa_case.proofs.Lively.{all_live, members_live, live_later, same_live, AllLive}
use Rattle.opa_case.proofs.Stands.{lookup_append, either_has, in_upto, has_live, container_found, Has, in_containers, earlier_in, is_in}

-- what is of an entity among the members
of_entity : (e : ℕ) (xs : Population) → AllByRecursion (λ c. c.entity.0 ≡ e) (map (λ p. p.0) (filter (λ p. p.0.entity.0 == e) xs))
of_entity e [] = tt
of_entity e (x ∷ xs) = elim (x.0.entity.0 == e) as (λ b. (x.0.entity.0 == e) ≡ b → AllByRecursion (λ c. c.entity.0 ≡ e) (map (λ p. p.0) (cond b (x ∷ filter (λ p. p.0.entity.0 == e) xs) (filter (λ p. p.0.entity.0 == e) xs)))) [
  | true ↦ λ h. (exact_unsigned_eq x.0.entity.0 e h, of_entity e xs)
  | false ↦ λ _. of_entity e xs
] refl

pub members_of : (e : ℕ) (xs : Population) → AllByRecursion (λ c. c.entity.0 ≡ e) (members e xs)
members_of e xs = elim (e == 0) as (λ b. (e == 0) ≡ b → AllByRecursion (λ c. c.entity.0 ≡ e) (cond b (global ∷ []) (map (λ p. p.0) (filter (λ p. p.0.entity.0 == e) xs)))) [
  | true ↦ λ h. (sym (exact_unsigned_eq e 0 h), tt)
  | false ↦ λ _. of_entity e xs
] refl

module _ (s : Shape) (l : Lists) where
  -- an instance that is found in one list stands in that container
  found_in : (e : ℕ) (i c d : InstanceId) (names : Names) → lookup (is_same i) (map (λ n. (named e n, c)) names) ≡ Some d → d ≡ c
  found_in e i c d [] h = absurd (cc h)
  found_in e i c d (n ∷ ns) h =
      elim (is_same i (named e n)) as (λ b. cond b (Some c) (lookup (is_same i) (map (λ m. (named e m, c)) ns)) ≡ Some d → d ≡ c) [
        | true ↦ λ g. sym (same_Some c d g)
        | false ↦ λ g. found_in e i c d ns g
      ] h

  -- it is one of the containers
  found_among : (P : InstanceId → Type 0) (e : ℕ) (i d : InstanceId) (cs : List InstanceId) → AllByRecursion P cs → lookup (is_same i) (flat_map (held s l e) cs) ≡ Some d → P d
  found_among P e i d [] all h = absurd (cc h)
  found_among P e i d (c ∷ cs) all h = go (either_has _ _ d (sym (lookup_append (is_same i) (held s l e c) (flat_map (held s l e) cs)) ∙ h)) (λ g. found_among P e i d cs all.1 g)
    where
      go : (lookup (is_same i) (held s l e c) ≡ Some d) ⊎ (lookup (is_same i) (flat_map (held s l e) cs) ≡ Some d) → ((lookup (is_same i) (flat_map (held s l e) cs) ≡ Some d) → P d) → P d
      go (inl g) rest = subst P (sym (found_in e i c d (unwrap_or (l (s.contained e) c) []) g)) all.0
      go (inr g) rest = rest g

  -- the container of an instance of this entity
  abbrev IsContainer : ℕ → ℕ → InstanceId → Type 0
  IsContainer whole e d = (is_live (live_upto s l whole) d ≡ true) × (d.entity.0 ≡ s.parent e)

  container_upto : (whole k n : ℕ) → k + n ≡ whole → (i d : InstanceId) → lookup (is_same i) (live_upto s l n) ≡ Some d → IsContainer whole i.entity.0 d
  unfolding live_upto
  container_upto whole k zero e i d h = absurd (cc h)
  container_upto whole k (suc n) e i d h = go (either_has _ _ d (sym (lookup_append (is_same i) (live_upto s l n) _) ∙ h)) (λ g. container_upto whole (suc k) n (omega (arith, e)) i d g) (in_upto s l (suc n) i d h)
    where
      both : (cs : List InstanceId) → AllByRecursion (λ c. is_live (live_upto s l whole) c ≡ true) cs → AllByRecursion (λ c. c.entity.0 ≡ s.parent (suc n)) cs → AllByRecursion (λ c. (is_live (live_upto s l whole) c ≡ true) × (c.entity.0 ≡ s.parent (suc n))) cs
      both [] a b = tt
      both (c ∷ cs) a b = ((a.0, b.0), both cs a.1 b.1)

      go : (lookup (is_same i) (live_upto s l n) ≡ Some d) ⊎ (lookup (is_same i) (flat_map (held s l (suc n)) (members (s.parent (suc n)) (live_upto s l n))) ≡ Some d) → ((lookup (is_same i) (live_upto s l n) ≡ Some d) → IsContainer whole i.entity.0 d) → (0 < i.entity.0) × (i.entity.0 ≤ suc n) × Has s l i d → IsContainer whole i.entity.0 d
      go (inl g) before at = before g
      go (inr g) before at =
          let cs = members (s.parent (suc n)) (live_upto s l n) in
          let lives : AllLive (live_upto s l whole) (live_upto s l n) = each_weaker _ _ (λ (p : InstanceId × InstanceId) t. live_later s l (suc k) n whole (omega (arith, e)) p.0 t) (live_upto s l n) (all_live (live_upto s l n)) in
          let f = found_among (λ c. (is_live (live_upto s l whole) c ≡ true) × (c.entity.0 ≡ s.parent (suc n))) (suc n) i d cs (both cs (members_live (live_upto s l whole) (s.parent (suc n)) (live_upto s l n) lives) (members_of (s.parent (suc n)) (live_upto s l n))) g in
          let own : i.entity.0 ≡ suc n = (in_containers s l (suc n) i d cs g).0 in
          (f.0, f.1 ∙ ap s.parent (sym own))

  -- the container of a live instance is live, and of the parent entity
  pub container_live : (i d : InstanceId) → container_of (live_of s l) i ≡ Some d → (is_live (live_of s l) d ≡ true) × (d.entity.0 ≡ s.parent i.entity.0)
  container_live i d h = container_upto (s.count - 1) 0 (s.count - 1) (omega arith) i d h

  -- lists that agree on the entities before t make the same of them live
  pub early_stays : (l' : Lists) (t : ℕ) → 0 < t → t < s.count → ((e : ℕ) (c : InstanceId) → 0 < e → e < t → l (s.contained e) c ≡ l' (s.contained e) c) → (j : InstanceId) → j.entity.0 < t → is_live (live_of s l) j ≡ true → is_live (live_of s l') j ≡ true
  early_stays l' t pos lt agree j early h =
      let same : live_upto s l (t - 1) ≡ live_upto s l' (t - 1) = same_live s l l' (t - 1) (λ e c le _. agree (suc e) c (omega arith) (omega (arith, le, pos))) 0 (t - 1) (omega arith) in
      let here : is_live (live_upto s l (t - 1)) j ≡ true =
      elim (is_same j global) as (λ b. (b || is_in s l (live_of s l) j) ≡ true → (b || is_in s l (live_upto s l (t - 1)) j) ≡ true) [
        | true ↦ λ _. refl
        | false ↦ λ g. earlier_in s l (s.count - 1 - (t - 1)) (t - 1) (s.count - 1) j (omega (arith, lt, pos)) (omega (arith, early)) g
      ] h in
      live_later s l' (s.count - 1 - (t - 1)) (t - 1) (s.count - 1) (omega (arith, lt, pos)) j (subst (λ (live : Population). is_live live j ≡ true) same here)

pub live_by_lists : LiveByLists
live_by_lists s shape l e n pos lt = (
  λ h.
      let f = container_found s l (named e n) pos h in
      let c = container_live s l (named e n) f.0 f.1 in
      record { container = f.0; names = f.2.names; live = c.0; parent = c.1; known = f.2.known; listed = f.2.listed },
  λ st. has_live s l shape e n st.container st.names pos lt st.live st.parent st.known st.listed,
)
