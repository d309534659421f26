-- Lines that are known throughout.
use Rattle.std.specs.Prelude.{ℕ, Bool, not, List}
use Rattle.std.specs.List.{list_all}
use Rattle.opa_value.specs.declared.value.Value.{Value}
use Rattle.opa_value.specs.Truth.{is_unknown}

abbrev pub is_pair_known : ℕ × Value → Bool
is_pair_known p = not (is_unknown p.1)

-- none of its values is unknown
abbrev pub is_line_known : List (ℕ × Value) → Bool
is_line_known l = list_all is_pair_known l
