-- Where an operand's line is.
use Rattle.std.specs.Prelude.{ℕ, List}
use Rattle.opa_value.specs.declared.value.Value.{Value}
use Rattle.opa_code.specs.declared.over_lines.operand.Place.{Place}
use Rattle.opa_code.specs.declared.over_lines.operand.Place.TheVariants.{Made, Seen}

-- the line of a place
abbrev pub line_at : Place → List (ℕ × Value)
line_at (Made line) = line
line_at (Seen line) = line.now
