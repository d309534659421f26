-- Sizes that stop at the greatest u64, and the counts that they give.
use Rattle.std.specs.Prelude.{ℕ, ◌-◌, ◌^◌, ℤ, List, Option, min}
use Rattle.std.specs.Option.{option_map}
use Rattle.std.specs.Str.Parse.{starts_with_minus}
use Rattle.opa_value.specs.NumberText.{signed, size_of, parts_of, without_minus}

abbrev pub capped : ℕ → ℕ
capped n = min n (2 ^ 64 - 1)

-- the count that a text spells, with such a size
abbrev pub capped_count : List ℕ → Option ℤ
capped_count text = option_map (λ parts. signed (starts_with_minus text) (capped (size_of parts.0 parts.1))) (parts_of (without_minus text))
