-- The plain text of a number is the shortest that spells it.
use Rattle.std.proofs.Common.{◌≡◌, ℕ, zero, suc, ◌+◌, ◌*◌, ◌-◌, ◌/◌, ◌%◌, ◌^◌, ◌<◌, ◌≤◌, ℤ, pos, negsuc, Bool, true, false, cond, eqb, List, [], ◌∷◌, ◌++◌, length, take, decimal, sym, ap, ◌∙◌, arith}
use Rattle.std.specs.Int.RustNames.{unsigned_abs}
use Rattle.std.specs.Str.Parse.{digits_value}
use Rattle.std.proofs.lemmas.Bool.{eq-eqb}
use Rattle.std.proofs.lemmas.Fmt.{length-decimal-le}
use Rattle.std.proofs.lemmas.Int.Digits.{digits_value-lt}
use Rattle.std.proofs.lemmas.List.{length-append, length-take}
use Rattle.opa_value.specs.Numbers.{InRange}
use Rattle.opa_value.specs.NumberText.{size_of, signed, sign_text, behind_text, Spells, four_digits, decimals_needed, is_negative, number_text, plain_text}
use Rattle.opa_value.proofs.Digits.{own}
use Rattle.opa_value.proofs.ReadBack.{needed_shows}
use Rattle.opa_value.proofs.HeldCounts.{abs_signed}

-- the digits before the point are the whole part, and those behind it are enough decimals
parts_of_size : (w b k size : ℕ) → k ≤ 4 → b < 10 ^ k → w * 10000 + b * 10 ^ (4 - k) ≡ size → (w ≡ size / 10000) × (size % 10 ^ (4 - k) ≡ 0)
parts_of_size w b zero size le less e = (omega arith, omega arith)
parts_of_size w b (suc zero) size le less e = (omega arith, omega arith)
parts_of_size w b (suc (suc zero)) size le less e = (omega arith, omega arith)
parts_of_size w b (suc (suc (suc zero))) size le less e = (omega arith, omega arith)
parts_of_size w b (suc (suc (suc (suc zero)))) size le less e = (omega arith, omega arith)
parts_of_size w b (suc (suc (suc (suc (suc k))))) size le less e = absurd (omega arith)

-- no fewer decimals would be enough
least_here : (b : Bool) (x y k : ℕ) → b ≡ true → x ≤ k → cond b x y ≤ k
least_here true x y k e le = le
least_here false x y k e le = cc

least_later : (b : Bool) (x y k : ℕ) → x ≤ k → y ≤ k → cond b x y ≤ k
least_later true x y k here later = here
least_later false x y k here later = later

needed_least : (k size : ℕ) → k ≤ 4 → size % 10 ^ (4 - k) ≡ 0 → decimals_needed size ≤ k
needed_least zero size le enough = least_here (eqb (size % 10 ^ 4) 0) _ _ _ (eq-eqb _ _ enough) (omega arith)
needed_least (suc zero) size le enough =
    least_later (eqb (size % 10 ^ 4) 0) _ _ _ (omega arith) (least_here (eqb (size % 10 ^ 3) 0) _ _ _ (eq-eqb _ _ enough) (omega arith))
needed_least (suc (suc zero)) size le enough =
    least_later (eqb (size % 10 ^ 4) 0) _ _ _ (omega arith) (least_later (eqb (size % 10 ^ 3) 0) _ _ _ (omega arith)
    (least_here (eqb (size % 10 ^ 2) 0) _ _ _ (eq-eqb _ _ enough) (omega arith)))
needed_least (suc (suc (suc zero))) size le enough =
    least_later (eqb (size % 10 ^ 4) 0) _ _ _ (omega arith) (least_later (eqb (size % 10 ^ 3) 0) _ _ _ (omega arith)
    (least_later (eqb (size % 10 ^ 2) 0) _ _ _ (omega arith) (least_here (eqb (size % 10) 0) _ _ _ (eq-eqb _ _ enough) (omega arith))))
needed_least (suc (suc (suc (suc zero)))) size le enough = (needed_shows size).0
needed_least (suc (suc (suc (suc (suc k))))) size le enough = absurd (omega arith)

behind_least : (xs ys : List ℕ) → length xs ≤ length ys → length (behind_text xs) ≤ length (behind_text ys)
behind_least [] ys le = omega arith
behind_least (x ∷ xs) [] le = absurd (omega arith)
behind_least (x ∷ xs) (y ∷ ys) le = omega arith

sign_least : (count : ℤ) (negative : Bool) (n : ℕ) → count ≡ signed negative n → length (sign_text (is_negative count)) ≤ length (sign_text negative)
sign_least (pos m) negative n e = omega arith
sign_least (negsuc m) true n e = omega arith
sign_least (negsuc m) false n e = cc

pub plain_shortest : (count : ℤ) (text : List ℕ) → InRange count → Spells text count → length (plain_text count) ≤ length text
unfolding plain_text number_text
plain_shortest count text range s =
    let size : ℕ = unsigned_abs count in
    let is : size_of s.whole s.behind ≡ size = sym (ap unsigned_abs s.counted ∙ abs_signed s.negative (size_of s.whole s.behind)) in
    let parts = parts_of_size (digits_value 10 s.whole) (digits_value 10 s.behind) (length s.behind) size s.at_most (digits_value-lt 10 s.behind (own.to s.behind s.behind_digits)) is in
    let short : size / 10000 < 10 ^ length s.whole = rw (← parts.0) (digits_value-lt 10 s.whole (own.to s.whole s.whole_digits)) in
    let whole : length (decimal (size / 10000)) ≤ length s.whole = length-decimal-le (length s.whole) (size / 10000) s.some short (omega arith) in
    let least = needed_least (length s.behind) size s.at_most parts.1 in
    let needed : ℕ = decimals_needed size in
    let cut : length (take needed (four_digits size)) ≤ length s.behind = simp length-take (omega (arith, least)) in
    let behind = behind_least (take needed (four_digits size)) s.behind cut in
    let sign = sign_least count s.negative (size_of s.whole s.behind) s.counted in
    let written = ap length s.written ∙ length-append (sign_text s.negative) (s.whole ++ behind_text s.behind) in
    omega (
      arith,
      written,
      whole,
      behind,
      sign,
      length-append s.whole (behind_text s.behind),
      length-append (sign_text (is_negative count)) (decimal (size / 10 ^ 4) ++ behind_text (take needed (four_digits size))),
      length-append (decimal (size / 10 ^ 4)) (behind_text (take needed (four_digits size))),
    )
