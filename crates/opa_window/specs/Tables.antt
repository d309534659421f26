-- The truth tables as one: a truth value where one has it, else what is open, else the other truth value.
use Rattle.std.specs.Prelude.{Bool, true, false, not, cond, List}
use Rattle.std.specs.List.{list_any}
use Rattle.opa_value.specs.declared.value.Value.{Value}
use Rattle.opa_value.specs.declared.value.Value.TheVariants as value
use Rattle.opa_value.specs.Truth.{unless_open}
use Rattle.opa_window.specs.declared.marks.Mark.{Mark}
use Rattle.opa_window.specs.declared.marks.Mark.TheVariants as mark
use Rattle.opa_window.specs.Marks.{has_mark}

abbrev pub mark_of : Bool → Mark
mark_of true = mark.True
mark_of false = mark.False

-- all of the values for false, and any of them for true
abbrev pub table_of : Bool → List Value → Value
table_of decided vs = cond (list_any (has_mark (mark_of decided)) vs) (value.Bool decided) (unless_open vs (value.Bool (not decided)))

abbrev pub open_value : Bool → Bool → Bool → Value
open_value decided unknown uncertain = cond unknown value.Unknown (cond uncertain value.Uncertain (value.Bool (not decided)))

abbrev pub unless_found : Bool → Bool → Value → Value
unless_found decided found other = cond found (value.Bool decided) other
