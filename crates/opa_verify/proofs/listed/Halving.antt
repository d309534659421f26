-- What runs list, half by half.
use Rattle.std.proofs.Common.{◌≡◌, ℕ, List, [], ◌∷◌, ◌++◌, Bool, true, false, cond, Some, refl, ◌∙◌, ap}
use Rattle.opa_date.specs.declared.TheConstants.{DAYS}
use Rattle.opa_line.specs.Lines.{at, value_or, StandsFor}
use Rattle.opa_verify.specs.declared.listed.runs.Run.{Run}
use Rattle.opa_verify.specs.Listed.Shades.{gone}
use Rattle.opa_verify.specs.Listed.ShadeLines.{ShadeLine, first_there, run_at, runs_at}

runs_append : (xs ys : List Run) (d : ℕ) → first_there (runs_at xs d) (runs_at ys d) ≡ runs_at (xs ++ ys) d
runs_append [] ys d = refl
runs_append (x ∷ xs) ys d = go (run_at x d).missing refl ∙ ap (first_there (run_at x d)) (runs_append xs ys d)
  where
    go : (b : Bool) → (run_at x d).missing ≡ b → cond (cond b (runs_at xs d) (run_at x d)).missing (runs_at ys d) (cond b (runs_at xs d) (run_at x d)) ≡ cond b (first_there (runs_at xs d) (runs_at ys d)) (run_at x d)
    go true e = refl
    go false e = ap (λ b. cond b (runs_at ys d) (run_at x d)) e

pub halved : (runs left right : List Run) (first second l : ShadeLine) → left ++ right ≡ runs → StandsFor DAYS (runs_at left) first → StandsFor DAYS (runs_at right) second
    → StandsFor DAYS (λ d. first_there (value_or gone (at first d)) (value_or gone (at second d))) l → StandsFor DAYS (runs_at runs) l
halved runs left right first second l parts h k stands d lt =
    stands d lt ∙ ap Some (ap (λ o. first_there (value_or gone o) (value_or gone (at second d))) (h d lt) ∙ ap (λ o. first_there (runs_at left d) (value_or gone o)) (k d lt)
    ∙ runs_append left right d ∙ ap (λ rs. runs_at rs d) parts)
