-- What a condition takes, or else what stands behind it, is what is chosen.
use Rattle.std.proofs.Common.{◌≡◌, ℕ, Bool, true, false, cond, List, Some, refl, sym, ◌∙◌, ap}
use Rattle.opa_date.specs.declared.TheConstants.{DAYS}
use Rattle.opa_line.specs.Lines.{StandsFor}
use Rattle.opa_window.specs.Days.{day_value}
use Rattle.opa_value.specs.declared.value.Value.{Value}
use Rattle.opa_value.specs.declared.value.Value.TheVariants.{Unknown, Bool as Truth}
use Rattle.opa_mean.specs.Meaning.{choose}
use Rattle.opa_code.specs.OverLines.Choices.{choice_of, taken_or}
use Rattle.opa_code.specs.OverLines.Lines.{Has}

pub chooses : (c v rest : Value) → taken_or (choice_of c v) rest ≡ choose c v rest
chooses (Truth true) v rest = refl
chooses (Truth false) v rest = refl
chooses Unknown v rest = refl
chooses _ v rest = refl

-- under a condition that doesn't change, the value or what stands behind it is what is chosen
pub chosen_always : (holds : Bool) (test value rest line : List (ℕ × Value)) → ((d : ℕ) → day_value test d ≡ Truth holds) → StandsFor DAYS (day_value (cond holds value rest)) line
    → StandsFor DAYS (λ d. choose (day_value test d) (day_value value d) (day_value rest d)) line
chosen_always true test value rest line is h d lt = h d lt ∙ ap Some (sym (ap (λ t. choose t (day_value value d) (day_value rest d)) (is d)))
chosen_always false test value rest line is h d lt = h d lt ∙ ap Some (sym (ap (λ t. choose t (day_value value d) (day_value rest d)) (is d)))

pub value_chosen : (test value rest : List (ℕ × Value)) → ((d : ℕ) → day_value test d ≡ Truth true) → Has (λ d. choose (day_value test d) (day_value value d) (day_value rest d)) value
value_chosen test value rest is d lt = sym (ap (λ t. choose t (day_value value d) (day_value rest d)) (is d))

pub rest_chosen : (test value rest : List (ℕ × Value)) → ((d : ℕ) → day_value test d ≡ Truth false) → Has (λ d. choose (day_value test d) (day_value value d) (day_value rest d)) rest
rest_chosen test value rest is d lt = sym (ap (λ t. choose t (day_value value d) (day_value rest d)) (is d))
