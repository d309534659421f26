-- The digits of a number are a token.
use Rattle.std.proofs.Common.{◌≡◌, ◌<◌, ◌≤◌, ℕ, pos, List, ◌++◌, length, take, false, inl, sym, ap, subst, ◌∙◌, arith, decimal}
use Rattle.std.specs.Prelude.{◌-◌, ◌/◌, ◌%◌, ◌^◌}
use Rattle.std.proofs.lemmas.Fmt.{decimal_nonempty, digits_decimal}
use Rattle.opa_value.specs.Numbers.{InRange}
use Rattle.opa_value.specs.NumberText.{plain_text, number_text, sign_text, behind_text, four_digits, decimals_needed}
use Rattle.opa_value.proofs.Digits.{own}
use Rattle.opa_value.proofs.ReadBack.{number_spelled, needed_shows}
use Rattle.opa_words.specs.declared.kinds.TokenKind.TheVariants as kind
use Rattle.opa_words.specs.Kinds.{IsNumber}
use Rattle.opa_words.specs.Pieces.{IsPiece, number}
use Rattle.opa_words.proofs.Ascii.{is_ascii}
use Rattle.opa_words.proofs.LawsHold.{ascii_is_token_holds}
use Rattle.opa_words.proofs.Separate.{all_wider, numeric, number_numeric}
use Rattle.opa_text.proofs.WrittenValues.{numeric_ascii, behind_digits, sign_first}

digits_number : (k size : ℕ) → k ≤ 4 → size % 10 ^ (4 - k) ≡ 0 → InRange (pos size) → IsNumber (number_text k (pos size))
unfolding number_text
digits_number k size le enough range =
    let w : ℕ = size / 10 ^ 4 in
    let small : w < 2 ^ 64 = omega arith in
    let s = number_spelled k (pos size) le enough range in
    let plain : s.negative ≡ false = sign_first s.negative s.whole (behind_text s.behind) (decimal w) (digits_decimal own w small) (decimal_nonempty w small) (behind_text (take k (four_digits size))) s.written in
    subst IsNumber (sym (s.written ∙ ap (λ b. sign_text b ++ (s.whole ++ behind_text s.behind)) plain)) (behind_digits s.behind s.whole s.whole_digits s.some s.behind_digits s.at_most)

plain_number : (n : ℕ) → InRange (pos n) → IsNumber (plain_text (pos n))
unfolding plain_text
plain_number n h = let e = needed_shows n in digits_number (decimals_needed n) n e.0 e.1 h

number_is_piece : (t : List ℕ) → IsNumber t → IsPiece (number t)
number_is_piece t is = ascii_is_token_holds kind.Number t (all_wider numeric is_ascii t numeric_ascii (number_numeric t is)) is

pub number_piece : (n : ℕ) → InRange (pos n) → IsPiece (number (plain_text (pos n)))
number_piece n h = number_is_piece (plain_text (pos n)) (plain_number n h)

pub whole_piece : (n : ℕ) → n ≤ 36600 → IsPiece (number (decimal n))
whole_piece n h = number_is_piece (decimal n) (inl (let small : n < 2 ^ 64 = omega (arith, h) in (digits_decimal own n small, (let some : 0 < length (decimal n) = decimal_nonempty n small in omega (arith, some)))))
