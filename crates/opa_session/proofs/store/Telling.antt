-- Two lines differ exactly where their values do at some day.
use Rattle.std.proofs.Common.{◌≡◌, ℕ, Bool, true, false, [], ◌∷◌, Option, None, Some, is_some, refl, sym, ◌∙◌, ap}
use Rattle.opa_io.proofs.Options.{none_is}
use Rattle.opa_date.specs.declared.TheConstants.{DAYS}
use Rattle.opa_line.specs.Lines.{IsLine, at}
use Rattle.opa_line.specs.Differences.{IsFirstDifference}
use Rattle.opa_value.specs.declared.value.Value.TheVariants.{Unknown}
use Rattle.opa_case.specs.Cases.{Answer}
use Rattle.opa_mean.specs.Changes.{first_difference}
use Rattle.opa_mean.specs.Given.{line_value}
use Rattle.opa_mean.proofs.Cleaning.{same_where_none}
use Rattle.opa_mean.proofs.reached.Differing.{none_where_same}

at_value : (l : Answer) → IsLine DAYS l → (d : ℕ) → at l d ≡ Some (line_value (Some l) d)
at_value [] form d = absurd form
at_value (p ∷ l) form d = refl

pub two_lines : (l m : Answer) → IsLine DAYS l → IsLine DAYS m → (o : Option ℕ) → IsFirstDifference DAYS l m o → is_some o ≡ is_some (first_difference DAYS (line_value (Some l)) (line_value (Some m)))
two_lines l m fl fm None same = sym (ap is_some (none_where_same DAYS (line_value (Some l)) (line_value (Some m)) (λ d lt. ap (λ x. line_value (Some x) d) same)))
two_lines l m fl fm (Some d) h = go (is_some (first_difference DAYS (line_value (Some l)) (line_value (Some m)))) refl
  where
    go : (b : Bool) → is_some (first_difference DAYS (line_value (Some l)) (line_value (Some m))) ≡ b → true ≡ is_some (first_difference DAYS (line_value (Some l)) (line_value (Some m)))
    go true e = sym e
    go false e =
        let same = same_where_none DAYS (line_value (Some l)) (line_value (Some m)) (none_is (first_difference DAYS (line_value (Some l)) (line_value (Some m))) e) d h.0 in
        absurd (h.1 (at_value l fl d ∙ ap Some same ∙ sym (at_value m fm d)))

-- the line that is unknown on every day is as no line
pub unknown_differs : (l : Answer) → l ≡ (0, Unknown) ∷ [] → (d : ℕ) → line_value (Some l) d ≡ line_value None d
unknown_differs l is d = ap (λ x. line_value (Some x) d) is
