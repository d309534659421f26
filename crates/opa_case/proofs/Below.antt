-- The `every` lists that a change of lists leaves as they are.
use Rattle.std.specs.Prelude.{◌≡◌, ◌<◌, ◌≤◌, ◌==◌, ℕ, zero, suc, true, false, cond, not, ◌||◌, ◌&&◌, List, [], ◌∷◌, Option, None, Some, IfSome, IsNone, unwrap_or, map, refl}
use Rattle.std.specs.Option.{option_map, option_and_then, option_map_or}
use Rattle.std.specs.FinMap.{FinMap, get, insert}
use Rattle.std.specs.Ordering.{eq_by_cmp}
use Rattle.std.proofs.Common.{arith, ap, sym, ◌∙◌, eq-eqb}
use mathlib.Core.Bool.{true≢false}
use Rattle.std.proofs.lemmas.Bool.{or_parts, and_parts, lt-ltb}
use Rattle.std.proofs.lemmas.Map.Views.{tells_apart}
use Rattle.opa_model.specs.declared.ids.RelId.{RelId}
use Rattle.opa_cells.specs.declared.instance.InstanceId.{InstanceId}
use Rattle.opa_cells.specs.Instances.{is_same, global, named}
use Rattle.opa_cells.specs.Keys.{cell_cmp}
use Rattle.opa_cells.proofs.Orders.{cell_exact, same_itself}
use Rattle.opa_case.specs.Shapes.{Shape, IsShape}
use Rattle.opa_case.specs.Cases.{stored}
use Rattle.opa_case.specs.Live.{Names, Lists, gathered, walk}
use Rattle.opa_case.specs.Steps.{rel, with_every, every_upto, every_of, changed}
use Rattle.opa_case.specs.Below.{is_under, hangs_on, StaysUnknown}
use Rattle.opa_case.proofs.Losing.{every_at, get-every}
use Rattle.opa_case.proofs.Walks.{positive}

module _ (s : Shape) (shape : IsShape s) (t : ℕ) (l l' : Lists) (agree : (e : ℕ) (c : InstanceId) → 0 < e → e < s.count → (e ≡ t → ⊥) → l (s.contained e) c ≡ l' (s.contained e) c) where
  other : (e : ℕ) → (e == t) ≡ false → e ≡ t → ⊥
  other e apart same = true≢false (sym (eq-eqb e t same) ∙ apart)

  next : (e : ℕ) → e < s.count → (e == 0) ≡ false → (e == t) ≡ false → (a b : Option (List InstanceId)) → a ≡ b
      → option_and_then (λ cs. option_map (map (named e)) (gathered (map (l (s.contained e)) cs))) a ≡ option_and_then (λ cs. option_map (map (named e)) (gathered (map (l' (s.contained e)) cs))) b
  next e lt pos apart a b same = λ k. option_and_then (λ cs. option_map (map (named e)) (gathered (map (λ c. agree e c (positive e pos) lt (other e apart) k) cs))) (same k)

  -- A walk that doesn't come by t is the same.
  walk_stays : (n e : ℕ) → e < s.count → is_under s t n e ≡ false → walk s l n e ≡ walk s l' n e
  unfolding walk is_under
  walk_stays zero e lt h = refl
  walk_stays (suc n) e lt h =
      elim (e == 0) as (λ b. (e == 0) ≡ b → (not b && ((e == t) || is_under s t n (s.parent e))) ≡ false
      → cond b (Some (global ∷ [])) (option_and_then (λ cs. option_map (map (named e)) (gathered (map (l (s.contained e)) cs))) (walk s l n (s.parent e)))
      ≡ cond b (Some (global ∷ [])) (option_and_then (λ cs. option_map (map (named e)) (gathered (map (l' (s.contained e)) cs))) (walk s l' n (s.parent e)))) [
        | true ↦ λ _ _. refl
        | false ↦ λ pos g. let p = or_parts (e == t) (is_under s t n (s.parent e)) g in let early = shape.earlier e (positive e pos) lt in next e lt pos p.0 _ _ (walk_stays n (s.parent e) (omega (arith, early, lt)) p.1)
      ] refl h

  list_stays : (n : ℕ) (before before' : FinMap cell_cmp Names) → (s.every (rel n) && is_under s t s.count (s.target (rel n))) ≡ false → before ≡ before' → with_every s l n before ≡ with_every s l' n before'
  list_stays n before before' h same =
      elim (s.every (rel n)) as (λ b. (b && is_under s t s.count (s.target (rel n))) ≡ false
      → cond b (option_map_or (λ is. insert before (n, global) (map (λ i. i.name) is)) (walk s l s.count (s.target (rel n))) before) before
      ≡ cond b (option_map_or (λ is. insert before' (n, global) (map (λ i. i.name) is)) (walk s l' s.count (s.target (rel n))) before') before') [
        | true ↦ λ g. λ k. option_map_or (λ is. insert (same k) (n, global) (map (λ i. i.name) is)) (walk_stays s.count (s.target (rel n)) (shape.inside (rel n)) g k) (same k)
        | false ↦ λ _. same
      ] h

  -- one whose Walk isn't known is the same where it isn't known either by the other lists
  unknown_stays : (n : ℕ) (before before' : FinMap cell_cmp Names) → walk s l s.count (s.target (rel n)) ≡ None → walk s l' s.count (s.target (rel n)) ≡ None → before ≡ before' → with_every s l n before ≡ with_every s l' n before'
  unknown_stays n before before' old new same =
      elim (s.every (rel n)) as (λ b. cond b (option_map_or (λ is. insert before (n, global) (map (λ i. i.name) is)) (walk s l s.count (s.target (rel n))) before) before
      ≡ cond b (option_map_or (λ is. insert before' (n, global) (map (λ i. i.name) is)) (walk s l' s.count (s.target (rel n))) before') before') [
        | true ↦ ap (λ o. option_map_or (λ is. insert before (n, global) (map (λ i. i.name) is)) o before) old ∙ same ∙ sym (ap (λ o. option_map_or (λ is. insert before' (n, global) (map (λ i. i.name) is)) o before') new)
        | false ↦ same
      ]

  upto_stays : (n : ℕ) → n ≤ s.relations → ((k : ℕ) → k < s.relations → hangs_on s t k ≡ true → (walk s l s.count (s.target (rel k)) ≡ None) × (walk s l' s.count (s.target (rel k)) ≡ None)) → every_upto s l n ≡ every_upto s l' n
  unfolding every_upto
  upto_stays zero le none = refl
  upto_stays (suc n) le none =
      let before = upto_stays n (omega (arith, le)) none in
      elim (hangs_on s t n) as (λ b. hangs_on s t n ≡ b → with_every s l n (every_upto s l n) ≡ with_every s l' n (every_upto s l' n)) [
        | true ↦ λ h. let both = none n (omega (arith, le)) h in unknown_stays n (every_upto s l n) (every_upto s l' n) both.0 both.1 before
        | false ↦ λ h. list_stays n (every_upto s l n) (every_upto s l' n) h before
      ] refl

-- a list of another relation than the changed one is as it was
untouched : (s : Shape) → IsShape s → (r : RelId) (i : InstanceId) (w : Option Names) (m : FinMap cell_cmp Names) (e : ℕ) (c : InstanceId) → 0 < e → e < s.count → (e ≡ s.target r → ⊥) → stored m (s.contained e) c ≡ changed m r i w (s.contained e) c
untouched s shape r i w m e c pos lt apart = elim (eq_by_cmp cell_cmp ((s.contained e).0, c) (r.0, i)) as (λ b. eq_by_cmp cell_cmp ((s.contained e).0, c) (r.0, i) ≡ b → get m ((s.contained e).0, c) ≡ cond b w (get m ((s.contained e).0, c))) [
  | true ↦ λ h. absurd (apart (sym (shape.target e pos lt) ∙ ap (λ (k : ℕ × InstanceId). s.target (rel k.0)) (tells_apart cell_exact ((s.contained e).0, c) (r.0, i) h)))
  | false ↦ λ _. refl
] refl

-- a list of an `every` relation that isn't known has no Walk that is
unknown_walk : (s : Shape) (l : Lists) (n : ℕ) → n < s.relations → s.every (rel n) ≡ true → get (every_of s l) (n, global) ≡ None → walk s l s.count (s.target (rel n)) ≡ None
unknown_walk s l n lt is none = unmapped (walk s l s.count (s.target (rel n)))
    (ap (λ b. cond b (option_map (map (λ i. i.name)) (walk s l s.count (s.target (rel n)))) None) (sym (ap (λ b. b && is_same global global) is ∙ same_itself global))
    ∙ ap (λ b. cond b (every_at s l n global) None) (sym (lt-ltb n s.relations lt)) ∙ sym (get-every s l s.relations n global) ∙ none)
  where
    unmapped : (o : Option (List InstanceId)) → option_map (map (λ i. i.name)) o ≡ None → o ≡ None
    unmapped None h = refl
    unmapped (Some is) h = absurd (cc h)

-- The `every` lists, where one list is changed: those that were made anew, or the old ones where each that hangs on the list stays unknown.
pub every_changed : (s : Shape) → IsShape s → (r : RelId) (i : InstanceId) (w : Option Names) (m every : FinMap cell_cmp Names) (made : Option (FinMap cell_cmp Names)) → every ≡ every_of s (stored m)
    → IfSome made (λ all. all ≡ every_of s (changed m r i w)) → (IsNone made → (n : ℕ) → n < s.relations → StaysUnknown s (changed m r i w) every (s.target r) n) → unwrap_or made every ≡ every_of s (changed m r i w)
every_changed s shape r i w m every None was some stay =
    was ∙ upto_stays s shape (s.target r) (stored m) (changed m r i w) (λ e c pos lt apart. untouched s shape r i w m e c pos lt apart) s.relations (omega arith)
    (λ n lt h. let u = stay refl n lt h in (unknown_walk s (stored m) n lt (and_parts (s.every (rel n)) _ h).0 (ap (λ (x : FinMap cell_cmp Names). get x (n, global)) (sym was) ∙ u.0), u.1))
every_changed s shape r i w m every (Some all) was some stay = some
