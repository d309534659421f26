-- The place, one enclosing instance at a time.
use Rattle.std.proofs.Common.{◌≡◌, Bor, true, false, ℕ, ◌+◌, ◌<◌, List, ◌∷◌, Option, None, Some, length, get_or, drop, suc, sym, ◌∙◌, ap, add-one}
use Rattle.std.specs.Prelude.{find, flat_map}
use Rattle.std.specs.Option.{option_or, option_copied, is_some}
use Rattle.std.proofs.Math.Seq.{drop-cons}
use Rattle.std.proofs.lemmas.List.Folds.{find-append}
use Rattle.opa_cells.specs.declared.instance.InstanceId.{InstanceId}
use Rattle.opa_mean.specs.Places.{chain, is_of, place}

module _ (up : InstanceId → Option InstanceId) (xs : List InstanceId) (e i : ℕ) (x : InstanceId) (lt : i < length xs) (is : x ≡ get_or xs i x) where
  step : place up (drop i xs) e ≡ option_or (find (is_of e) (chain up x)) (place up (drop (i + 1) xs) e)
  step =
      ap (λ ys. place up ys e) (drop-cons xs i x lt ∙ ap (λ y. y ∷ drop (suc i) xs) (sym is))
      ∙ find-append (is_of e) (chain up x) (flat_map (chain up) (drop (suc i) xs))
      ∙ ap (λ k. option_or (find (is_of e) (chain up x)) (place up (drop k xs) e)) (sym (add-one i))

  -- it is met at one enclosing instance, or further out
  pub met_here : (r : Option (Bor InstanceId)) → option_copied r ≡ find (is_of e) (chain up x) → is_some r ≡ true → option_copied r ≡ place up (drop i xs) e
  met_here None found some = absurd (cc some)
  met_here (Some y) found some = sym (step ∙ ap (λ o. option_or o (place up (drop (i + 1) xs) e)) (sym found))

  pub met_beyond : (r : Option (Bor InstanceId)) → option_copied r ≡ find (is_of e) (chain up x) → is_some r ≡ false → place up (drop (i + 1) xs) e ≡ place up (drop i xs) e
  met_beyond None found none = sym (step ∙ ap (λ o. option_or o (place up (drop (i + 1) xs) e)) (sym found))
  met_beyond (Some y) found none = absurd (cc none)
