-- Places by listed containers, one enclosing instance after another.
use Rattle.std.proofs.Common.{◌≡◌, ℕ, zero, suc, ◌+◌, ◌<◌, ◌≤◌, arith, List, [], ◌∷◌, Option, None, Some, length, drop, get_or, sym, ◌∙◌, ap, refl, add-one}
use Rattle.std.proofs.Math.Seq.{drop-cons}
use Rattle.opa_cells.specs.declared.instance.InstanceId.{InstanceId}
use Rattle.opa_verify.specs.Listed.Ways.{Way, Met, Passed, Missing, walk_up, met_or, place_seen, way_told}

told_met : (w : Way) (rest : Option (Option InstanceId)) (i : InstanceId) → way_told w ≡ Some (Some i) → met_or w rest ≡ Some (Some i)
told_met (Met j) rest i e = e
told_met Passed rest i e = absurd (cc e)
told_met Missing rest i e = absurd (cc e)

told_passed : (w : Way) (rest : Option (Option InstanceId)) → way_told w ≡ Some None → met_or w rest ≡ rest
told_passed (Met j) rest e = absurd (cc e)
told_passed Passed rest e = refl
told_passed Missing rest e = absurd (cc e)

told_missing : (w : Way) (rest : Option (Option InstanceId)) → way_told w ≡ None → met_or w rest ≡ None
told_missing (Met j) rest e = absurd (cc e)
told_missing Passed rest e = absurd (cc e)
told_missing Missing rest e = refl

module _ (up : InstanceId → Option InstanceId) (xs : List InstanceId) (e i : ℕ) (x : InstanceId) (lt : i < length xs) (is : x ≡ get_or xs i x) where
  step : place_seen up (drop i xs) e ≡ met_or (walk_up up e x.entity.0 x) (place_seen up (drop (i + 1) xs) e)
  step = ap (λ ys. place_seen up ys e) (drop-cons xs i x lt ∙ ap (λ y. y ∷ drop (suc i) xs) (sym is)) ∙ ap (λ k. met_or (walk_up up e x.entity.0 x) (place_seen up (drop k xs) e)) (sym (add-one i))

  pub at_met : (j : InstanceId) → way_told (walk_up up e x.entity.0 x) ≡ Some (Some j) → place_seen up (drop i xs) e ≡ Some (Some j)
  at_met j h = step ∙ told_met (walk_up up e x.entity.0 x) (place_seen up (drop (i + 1) xs) e) j h

  pub at_passed : way_told (walk_up up e x.entity.0 x) ≡ Some None → place_seen up (drop (i + 1) xs) e ≡ place_seen up (drop i xs) e
  at_passed h = sym (step ∙ told_passed (walk_up up e x.entity.0 x) (place_seen up (drop (i + 1) xs) e) h)

  pub at_missing : way_told (walk_up up e x.entity.0 x) ≡ None → place_seen up (drop i xs) e ≡ None
  at_missing h = step ∙ told_missing (walk_up up e x.entity.0 x) (place_seen up (drop (i + 1) xs) e) h

pub drop_beyond : {X : Type 0} (xs : List X) (i : ℕ) → length xs ≤ i → drop i xs ≡ []
drop_beyond [] zero le = refl
drop_beyond [] (suc i) le = refl
drop_beyond (x ∷ xs) zero le = absurd (omega (arith, le))
drop_beyond (x ∷ xs) (suc i) le = drop_beyond xs i (omega (arith, le))
