-- A line whose value at each day is that of another one is that one.
use Rattle.std.specs.Prelude.{◌≡◌, ◌<◌, ℕ, List, [], ◌∷◌, Some, refl}
use Rattle.std.proofs.Common.{◌∙◌}
use Rattle.opa_date.specs.declared.TheConstants.{DAYS}
use Rattle.opa_line.specs.Lines.{at, value_or, IsLine}
use Rattle.opa_line.proofs.LineLaws.{equal_where_values_are}
use Rattle.opa_value.specs.declared.value.Value.{Value}

some_at : (x : Value) (l : List (ℕ × Value)) → IsLine DAYS l → (d : ℕ) → Some (value_or x (at l d)) ≡ at l d
some_at x [] form d = absurd form
some_at x (p ∷ l) form d = refl

pub same_copy : (x : Value) (l m : List (ℕ × Value)) → IsLine DAYS l → IsLine DAYS m → ((d : ℕ) → d < DAYS → at m d ≡ Some (value_or x (at l d))) → m ≡ l
same_copy x l m form other same = equal_where_values_are Value m l other form (λ d lt. same d lt ∙ some_at x l form d)
