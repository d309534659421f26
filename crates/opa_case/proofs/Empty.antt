-- The empty case fits.
use Rattle.std.specs.Prelude.{◌≡◌, ◌≤◌, ◌<◌, ◌==◌, ℕ, zero, suc, Bool, true, false, cond, List, [], ◌∷◌, ◌++◌, Option, None, Some, map, flat_map, unwrap_or, ◌-◌, refl}
use Rattle.std.specs.Option.{option_map, option_map_or, option_and_then}
use Rattle.std.specs.FinMap.{get, insert, empty, get-empty}
use Rattle.std.proofs.Common.{arith, ap, sym, ◌∙◌, eq-eqb}
use Rattle.std.proofs.lemmas.Map.Views.{exact_unsigned_eq}
use mathlib.Core.Bool.{true≢false}
use Rattle.opa_model.specs.declared.ids.RelId.{RelId}
use Rattle.opa_cells.specs.declared.instance.InstanceId.{InstanceId}
use Rattle.opa_cells.specs.Instances.{global, named}
use Rattle.opa_cells.specs.Keys.{cell_cmp}
use Rattle.opa_case.specs.Shapes.{Shape, IsShape, shape_of}
use Rattle.opa_case.specs.Live.{Lists, Population, members, held, gathered, live_upto, walk}
use Rattle.opa_case.specs.Cases.{no_case, stored}
use Rattle.opa_case.specs.Steps.{rel, every_upto}
use Rattle.opa_case.specs.Fits.{Fits}
use Rattle.opa_case.specs.Laws.{EmptyFits}
use Rattle.opa_case.proofs.Shaped.{shape_is}

module _ (s : Shape) (l : Lists) (none : (r : RelId) (i : InstanceId) → l r i ≡ None) where
  nobody : (e p : ℕ) → [] ≡ flat_map (held s l e) (members p [])
  nobody e p = elim (p == 0) as (λ b. [] ≡ flat_map (held s l e) (cond b (global ∷ []) [])) [
    | true ↦ ap (λ o. map (λ n. (named e n, global)) (unwrap_or o []) ++ []) (sym (none (s.contained e) global))
    | false ↦ refl
  ]

  pub nobody_live : (n : ℕ) → [] ≡ live_upto s l n
  unfolding live_upto
  nobody_live zero = refl
  nobody_live (suc n) = nobody (suc n) (s.parent (suc n)) ∙ ap (λ (live : Population). live ++ flat_map (held s l (suc n)) (members (s.parent (suc n)) live)) (nobody_live n)

  is_root : (n e : ℕ) → e ≡ 0 → walk s l n e ≡ Some (global ∷ [])
  unfolding walk
  is_root zero e h = refl
  is_root (suc n) e h = ap (λ b. cond b (Some (global ∷ [])) (option_and_then (λ cs. option_map (map (named e)) (gathered (map (l (s.contained e)) cs))) (walk s l n (s.parent e)))) (eq-eqb e 0 h)

  -- no Walk but that of the global entity is known
  pub unknown_walk : IsShape s → (n e : ℕ) → 0 < e → e < s.count → e ≤ n → walk s l n e ≡ None
  unfolding walk
  unknown_walk shape zero e pos lt le = absurd (omega (arith, pos, le))
  unknown_walk shape (suc n) e pos lt le =
      ap (λ b. cond b (Some (global ∷ [])) (option_and_then onward (walk s l n (s.parent e)))) (not_root (e == 0) refl)
      ∙ elim (s.parent e == 0) as (λ b. (s.parent e == 0) ≡ b → option_and_then onward (walk s l n (s.parent e)) ≡ None) [
        | true ↦ λ h. ap (option_and_then onward) (is_root n (s.parent e) (exact_unsigned_eq (s.parent e) 0 h)) ∙ ap (λ o. option_map (map (named e)) (gathered (o ∷ []))) (none (s.contained e) global)
        | false ↦ λ h. ap (option_and_then onward) (unknown_walk shape n (s.parent e) (above (s.parent e) h) (omega (arith, shape.earlier e pos lt, lt)) (omega (arith, shape.earlier e pos lt, le)))
      ] refl
    where
      onward : List InstanceId → Option (List InstanceId)
      onward cs = option_map (map (named e)) (gathered (map (l (s.contained e)) cs))

      above : (k : ℕ) → (k == 0) ≡ false → 0 < k
      above zero h = absurd (true≢false h)
      above (suc k) h = omega arith

      not_root : (b : Bool) → (e == 0) ≡ b → b ≡ false
      not_root true h = absurd (omega (arith, exact_unsigned_eq e 0 h, pos))
      not_root false h = refl

  pub no_every : IsShape s → (n : ℕ) → empty ≡ every_upto s l n
  unfolding every_upto
  no_every shape zero = refl
  no_every shape (suc n) = no_every shape n ∙ elim (s.every (rel n)) as (λ b. s.every (rel n) ≡ b → every_upto s l n ≡ cond b (option_map_or (λ is. insert (every_upto s l n) (n, global) (map (λ i. i.name) is)) (walk s l s.count (s.target (rel n))) (every_upto s l n)) (every_upto s l n)) [
    | true ↦ λ h. ap (λ o. option_map_or (λ is. insert (every_upto s l n) (n, global) (map (λ i. i.name) is)) o (every_upto s l n)) (sym (unknown_walk shape s.count (s.target (rel n)) (shape.over_another (rel n) h) (shape.inside (rel n)) (le_of (shape.inside (rel n)))))
    | false ↦ λ _. refl
  ] refl
    where
      le_of : {a b : ℕ} → a < b → a ≤ b
      le_of h = omega (arith, h)

absent : {X : Type 0} (k : ℕ × InstanceId) (x : X) → get (empty {X = X} {R = cell_cmp}) k ≡ Some x → ⊥
absent k x h = cc (sym (get-empty cell_cmp k) ∙ h)

pub empty_case_fits : (s : Shape) (ruled : List Bool) → IsShape s → Fits s ruled no_case
empty_case_fits s ruled shape = record {
  sound = record {
    declared = λ r i ns h. absurd (absent (r.0, i) ns h);
    source = λ r i ns h. absurd (absent (r.0, i) ns h);
    not_every = λ r i ns h. absurd (absent (r.0, i) ns h);
    names = λ r i ns h. absurd (absent (r.0, i) ns h);
    one = λ r i ns h o. absurd (absent (r.0, i) ns h);
    once = λ r i j ns ms n con h g a b. absurd (absent (r.0, i) ns h);
  };
  live = nobody_live s (stored empty) (λ r i. get-empty cell_cmp (r.0, i)) (s.count - 1);
  every = no_every s (stored empty) (λ r i. get-empty cell_cmp (r.0, i)) shape s.relations;
  listed = λ r i ns h. absurd (absent (r.0, i) ns h);
  answered = λ a i v h. absurd (absent (a.0, i) v h);
  referred = λ r i ns h ref. absurd (absent (r.0, i) ns h);
  answers = λ a i v h. absurd (absent (a.0, i) v h);
}

pub empty_fits : EmptyFits
empty_fits m ruled is = empty_case_fits (shape_of m) ruled (shape_is m is)
