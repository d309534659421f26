-- What a condition takes, and what stands behind it.
use Rattle.std.specs.Prelude.{true, false}
use Rattle.opa_value.specs.declared.value.Value.{Value}
use Rattle.opa_value.specs.declared.value.Value.TheVariants.{Unknown, Uncertain, Bool as Truth}
use Rattle.opa_code.specs.declared.over_lines.choice.Choice.{Choice}
use Rattle.opa_code.specs.declared.over_lines.choice.Choice.TheVariants.{Taken, Left}

abbrev pub choice_of : Value → Value → Choice
choice_of (Truth true) v = Taken v
choice_of (Truth false) v = Left
choice_of Unknown v = Taken Unknown
choice_of _ v = Taken Uncertain

abbrev pub taken_or : Choice → Value → Value
taken_or (Taken v) rest = v
taken_or Left rest = rest
