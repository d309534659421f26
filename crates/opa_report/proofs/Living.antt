-- The lists of live instances, entity by entity, are all live instances in their order.
use Rattle.std.proofs.Common.{◌≡◌, ◌⊎◌, inl, inr, ℕ, zero, suc, ◌+◌, ◌-◌, ◌<◌, ◌≤◌, Bool, true, false, cond, ◌==◌, List, [], ◌∷◌, ◌++◌, map, filter, flat_map, length, take, get_or, Contains, refl, sym, ◌∙◌, ap, subst, arith}
use Rattle.std.specs.Prelude.{unwrap_or, slice_index_or}
use Rattle.std.proofs.lemmas.Bool.{eq-eqb, ne_eqb, cases_eq}
use Rattle.std.proofs.lemmas.Grind.{flat_map-append}
use Rattle.std.proofs.lemmas.List.{append-nil, map-append}
use Rattle.std.proofs.lemmas.Option.{slice_get-get_or, get_or_from_slice_get}
use Rattle.std.proofs.lemmas.List.Elements.{Contains-append_cases, filter-append}
use Rattle.opa_io.proofs.Places.{take_whole}
use Rattle.opa_cells.specs.Instances.{global, named}
use Rattle.opa_cells.specs.declared.instance.InstanceId.{InstanceId}
use Rattle.opa_case.specs.Cases.{CaseView, stored}
use Rattle.opa_case.specs.Instances.{AreInstances}
use Rattle.opa_case.specs.Live.{Lists, Population, held, live_upto, members}
use Rattle.opa_case.specs.Shapes.{Shape, IsShape, shape_of}
use Rattle.opa_case.proofs.Shaped.{shape_is}
use Rattle.opa_tree.specs.declared.rulebase.Rulebase.{Rulebase}
use Rattle.opa_tree.proofs.Members.{none_in, contains_head, contains_tail, flat_out}
use Rattle.opa_mean.specs.Given.{facts_of}
use Rattle.opa_mean.specs.Rulebases.{IsOf}
use Rattle.opa_mean.proofs.Filtered.{filter_none, map_out}
use Rattle.opa_report.proofs.Firsts.{next_item}

filter_all : {X : Type 0} (p : X → Bool) (xs : List X) → ((x : X) → Contains xs x → p x ≡ true) → filter p xs ≡ xs
filter_all p [] h = refl
filter_all p (x ∷ xs) h = ap (λ b. cond b (x ∷ filter p xs) (filter p xs)) (h x (contains_head x xs)) ∙ ap (λ ys. x ∷ ys) (filter_all p xs (λ y k. h y (contains_tail x y xs k)))

-- the numbers below n, rising
abbrev rising : ℕ → List ℕ
rising zero = []
rising (suc n) = rising n ++ n ∷ []

abbrev whole : {X : Type 0} → List (List X) → List X
whole xss = flat_map (λ xs. xs) xss

whole_taken : {X : Type 0} (xss : List (List X)) (k : ℕ) → k ≤ length xss → whole (take k xss) ≡ flat_map (λ e. slice_index_or xss e []) (rising k)
whole_taken xss zero le = refl
whole_taken xss (suc k) le =
    ap (λ n. whole (take n xss)) one ∙ ap whole (next_item xss k (slice_index_or xss k []) (omega (arith, le)) (sym (get_or_from_slice_get xss k (slice_index_or xss k []) (slice_index_or xss k []) (slice_get-get_or xss k [] (omega (arith, le))))))
    ∙ flat_map-append (λ xs. xs) (take k xss) (slice_index_or xss k [] ∷ [])
    ∙ ap (λ ys. ys ++ (slice_index_or xss k [] ++ [])) (whole_taken xss k (omega (arith, le)))
    ∙ sym (flat_map-append (λ e. slice_index_or xss e []) (rising k) (k ∷ []))
  where
    one : suc k ≡ k + 1
    one = omega arith

module _ (s : Shape) (l : Lists) where
  -- the instances of an entity
  abbrev block : ℕ → Population
  block n = flat_map (held s l (suc n)) (members (s.parent (suc n)) (live_upto s l n))

  upto_none : live_upto s l zero ≡ []
  unfolding live_upto
  upto_none = refl

  upto_next : (n : ℕ) → live_upto s l (suc n) ≡ live_upto s l n ++ block n
  unfolding live_upto
  upto_next n = refl

  abbrev of : ℕ → InstanceId × InstanceId → Bool
  of e p = p.0.entity.0 == e

  block_entity : (n : ℕ) (x : InstanceId × InstanceId) → Contains (block n) x → x.0.entity.0 ≡ suc n
  block_entity n x h =
      let y = flat_out (held s l (suc n)) (members (s.parent (suc n)) (live_upto s l n)) x h in
      let z = map_out (λ name. (named (suc n) name, y.0)) (unwrap_or (l (s.contained (suc n)) y.0) []) x y.1.1 in
      ap (λ (w : InstanceId × InstanceId). w.0.entity.0) (sym z.1.1)

  upto_entity : (n : ℕ) (x : InstanceId × InstanceId) → Contains (live_upto s l n) x → x.0.entity.0 ≤ n
  upto_entity zero x h = absurd (none_in x (subst (λ (xs : Population). Contains xs x) upto_none h))
  upto_entity (suc n) x h = go (Contains-append_cases (live_upto s l n) (block n) x (subst (λ (xs : Population). Contains xs x) (upto_next n) h)) (λ k. upto_entity n x k)
    where
      go : Contains (live_upto s l n) x ⊎ Contains (block n) x → (Contains (live_upto s l n) x → x.0.entity.0 ≤ n) → x.0.entity.0 ≤ suc n
      go (inl k) rest = let le = rest k in omega (arith, le)
      go (inr k) rest = let same = block_entity n x k in omega (arith, same)

  of_upto : (n e : ℕ) → e < n → filter (of (suc e)) (live_upto s l n) ≡ block e
  of_upto zero e lt = absurd (omega (arith, lt))
  of_upto (suc n) e lt = ap (filter (of (suc e))) (upto_next n) ∙ filter-append (of (suc e)) (live_upto s l n) (block n) ∙ go (cases_eq e n) (λ ne. of_upto n e (omega (arith, lt, ne)))
    where
      none_yet : e ≡ n → filter (of (suc e)) (live_upto s l n) ≡ []
      none_yet same = filter_none (of (suc e)) (live_upto s l n) (λ x k. let le = upto_entity n x k in ne_eqb x.0.entity.0 (suc e) (λ q. omega (arith, le, q, same)))

      here : e ≡ n → filter (of (suc e)) (block n) ≡ block n
      here same = filter_all (of (suc e)) (block n) (λ x k. eq-eqb x.0.entity.0 (suc e) (block_entity n x k ∙ ap (λ m. suc m) (sym same)))

      none_here : (e ≡ n → ⊥) → filter (of (suc e)) (block n) ≡ []
      none_here ne = filter_none (of (suc e)) (block n) (λ x k. let own = block_entity n x k in ne_eqb x.0.entity.0 (suc e) (λ q. ne (omega (arith, own, q))))

      go : (e ≡ n) ⊎ (e ≡ n → ⊥) → ((e ≡ n → ⊥) → filter (of (suc e)) (live_upto s l n) ≡ block e) → filter (of (suc e)) (live_upto s l n) ++ filter (of (suc e)) (block n) ≡ block e
      go (inl same) rest = ap (λ xs. xs ++ filter (of (suc e)) (block n)) (none_yet same) ∙ here same ∙ ap block (sym same)
      go (inr ne) rest = ap (λ xs. xs ++ filter (of (suc e)) (block n)) (rest ne) ∙ ap (λ xs. block e ++ xs) (none_here ne) ∙ append-nil (block e)

  abbrev firsts : Population → List InstanceId
  firsts xs = map (λ (p : InstanceId × InstanceId). p.0) xs

  members_are : (n k : ℕ) → k < n → members (suc k) (live_upto s l n) ≡ firsts (block k)
  members_are n k lt = ap (λ b. cond b (global ∷ []) (firsts (filter (of (suc k)) (live_upto s l n)))) (ne_eqb (suc k) 0 (λ e. omega (arith, e))) ∙ ap firsts (of_upto n k lt)

  all_members : (n k : ℕ) → k ≤ n → flat_map (λ e. members e (live_upto s l n)) (rising (suc k)) ≡ global ∷ firsts (live_upto s l k)
  all_members n zero le = ap (λ xs. global ∷ firsts xs) (sym upto_none)
  all_members n (suc k) le =
      flat_map-append (λ e. members e (live_upto s l n)) (rising (suc k)) (suc k ∷ [])
      ∙ ap (λ xs. xs ++ (members (suc k) (live_upto s l n) ++ [])) (all_members n k (omega (arith, le)))
      ∙ ap (λ xs. (global ∷ firsts (live_upto s l k)) ++ xs) (append-nil (members (suc k) (live_upto s l n)) ∙ members_are n k (omega (arith, le)))
      ∙ ap (λ xs. global ∷ xs) (sym (ap firsts (upto_next k) ∙ map-append (λ (p : InstanceId × InstanceId). p.0) (live_upto s l k) (block k)))

-- the lists of a case, joined
pub all_live : (r : Rulebase) (c : CaseView) → IsOf r c → (lists : List (List InstanceId)) → AreInstances (length r.model.entities) c lists → flat_map (λ xs. xs) lists ≡ (facts_of c).instances
all_live r c is lists are =
    let s = shape_of r.model in let l = stored c.lists in let n = length r.model.entities in
    let some : 0 < n = (shape_is r.model is.is_model).some in
    sym (ap (λ (xss : List (List InstanceId)). flat_map (λ xs. xs) xss) (take_whole lists (length lists) (omega arith)))
    ∙ whole_taken lists (length lists) (omega arith)
    ∙ each (length lists) (omega (arith, are.for_each))
    ∙ ap (λ k. flat_map (λ e. members e c.live) (rising k)) (counted some)
    ∙ ap (λ (live : Population). flat_map (λ e. members e live) (rising (suc (n - 1)))) is.fits.live
    ∙ all_members s l (n - 1) (n - 1) (omega arith)
    ∙ sym (ap (λ (live : Population). global ∷ map (λ (p : InstanceId × InstanceId). p.0) live) is.fits.live)
  where
    counted : 0 < length r.model.entities → length lists ≡ suc (length r.model.entities - 1)
    counted some = let e = are.for_each in omega (arith, e, some)

    each : (k : ℕ) → k ≤ length r.model.entities → flat_map (λ e. slice_index_or lists e []) (rising k) ≡ flat_map (λ e. members e c.live) (rising k)
    each zero le = refl
    each (suc k) le =
        flat_map-append (λ e. slice_index_or lists e []) (rising k) (k ∷ [])
        ∙ ap (λ xs. xs ++ (slice_index_or lists k [] ++ [])) (each k (omega (arith, le)))
        ∙ ap (λ xs. flat_map (λ e. members e c.live) (rising k) ++ (xs ++ [])) (are.in_order k (omega (arith, le)))
        ∙ sym (flat_map-append (λ e. members e c.live) (rising k) (k ∷ []))
