-- Numbers: whole counts of ten-thousandths, of a size of at most 10^17.
use Rattle.std.specs.Prelude.{ℕ, ◌^◌, ◌≤◌, ℤ, Bool, Option, Some, None, nat_le, if◌then◌else◌}
use Rattle.std.specs.Int.RustNames.{unsigned_abs}

-- the greatest size of a count
abbrev pub most : ℕ
most = 10 ^ 17

-- the counts of numbers
abbrev pub InRange : ℤ → Type 0
InRange count = unsigned_abs count ≤ most

-- this count is one of a number
abbrev pub in_range : ℤ → Bool
in_range count = nat_le (unsigned_abs count) most

-- the count, where it is one of a number
abbrev pub kept : ℤ → Option ℤ
kept count = if in_range count then Some count else None
