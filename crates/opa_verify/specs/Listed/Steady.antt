-- Lines that have one value on the days of a run.
use Rattle.std.specs.Prelude.{◌≡◌, ℕ, ◌≤◌, Bool, List, Some}
use Rattle.std.specs.Option.{option_map}
use Rattle.opa_value.specs.Fit.{fit_of}
use Rattle.opa_case.specs.Shapes.{Shape}
use Rattle.opa_cells.specs.declared.instance.InstanceId.{InstanceId}
use Rattle.opa_tree.specs.declared.expr.Expr.{Expr}
use Rattle.opa_value.specs.declared.value.Value.{Value}
use Rattle.opa_verify.specs.Listed.Listings.{Listing}
use Rattle.opa_verify.specs.Listed.Seen.{seen}
use Rattle.opa_line.specs.Lines.{at}
use Rattle.opa_verify.specs.declared.listed.shade.Shade.{Shade}
use Rattle.opa_verify.specs.Listed.ShadeLines.{ShadeLine}

-- on each day from the first to the last, this one too, the line has the shade
abbrev pub IsSteady : ShadeLine → ℕ → ℕ → Shade → Type 0
IsSteady l s t h = (d : ℕ) → s ≤ d → d ≤ t → at l d ≡ Some h

-- on each day from the first to the last a tree's value is seen, and fitted it is this value
abbrev pub IsConcludedOn : Shape → Listing → Bool → Expr → List InstanceId → ℕ → ℕ → Value → Type 0
IsConcludedOn s k money e enclosing start end v = (d : ℕ) → start ≤ d → d ≤ end → option_map (fit_of money) (seen s k e enclosing d) ≡ Some v
