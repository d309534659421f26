-- Arithmetic of counts. A result that isn't a count is rounded to the nearest one, halves away from zero.
use Rattle.std.specs.Prelude.{◌≡◌, ℕ, zero, suc, ◌+◌, ◌*◌, ◌-◌, ◌/◌, ◌^◌, ◌<◌, ◌≤◌, ℤ, pos, negsuc, ◌-ℤ◌, ◌*ℤ◌, neg_ℤ, Option, Some, None}
use Rattle.std.specs.Int.RustNames.{unsigned_abs}

-- how many counts are one
abbrev pub one : ℕ
one = 10000

-- the sign of the first, and the size
abbrev pub signed_as : ℤ → ℕ → ℤ
signed_as (pos _) size = pos size
signed_as (negsuc _) size = neg_ℤ (pos size)

-- the quotient of p and q, which is above 0, rounded: the sign of p and the size (2|p| + q) div (2q)
abbrev pub near : ℤ → ℕ → ℤ
near p q = signed_as p ((2 * unsigned_abs p + q) / (2 * q))

-- No whole number lies nearer to the quotient of p and q than r: r times q is at most half of q away from p, and at
-- exactly one half r is the one that is farther from zero.
pub record IsNearest (p q r : ℤ) : Type 0 where
  pub close : 2 * unsigned_abs (r *ℤ q -ℤ p) ≤ unsigned_abs q
  pub half_away : 2 * unsigned_abs (r *ℤ q -ℤ p) ≡ unsigned_abs q → unsigned_abs p < unsigned_abs (r *ℤ q)

-- the count of a product, rounded
abbrev pub product : ℤ → ℤ → ℤ
product x y = near (x *ℤ y) one

-- the count of a quotient, rounded; none where the divisor is zero
abbrev pub quotient : ℤ → ℤ → Option ℤ
quotient x (pos zero) = None
quotient x (pos (suc n)) = Some (near (x *ℤ pos one) (suc n))
quotient x (negsuc n) = Some (near (neg_ℤ x *ℤ pos one) (suc n))

-- the count, rounded to so many decimals of its four
abbrev pub rounded : ℕ → ℤ → ℤ
rounded decimals x = let step = 10 ^ (4 - decimals) in near x step *ℤ pos step
