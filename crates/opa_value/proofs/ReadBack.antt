-- A number's text, read, gives the number back.
use Rattle.std.proofs.Common.{◌≡◌, ℕ, zero, suc, ◌+◌, ◌*◌, ◌-◌, ◌/◌, ◌%◌, ◌^◌, ◌<◌, ◌≤◌, ℤ, pos, negsuc, true, eqb, length, take, Some, Ok, Err, decimal, refl, sym, ap, ◌∙◌, arith}
use Rattle.std.specs.Char.{digit_value, is_ascii_digit}
use Rattle.std.specs.Int.RustNames.{unsigned_abs}
use Rattle.std.specs.Str.Parse.{digits_value}
use Rattle.std.proofs.lemmas.Bool.{and_from, cond_both, cond-true, le-leb, eqb-true}
use Rattle.std.proofs.lemmas.Fmt.{decimal_nonempty, digits_decimal, digits_value-decimal}
use Rattle.opa_value.specs.declared.number.NumFault.TheVariants as fault
use Rattle.opa_value.specs.Numbers.{InRange, in_range}
use Rattle.opa_value.specs.NumberText.{all_digits, signed, Spells, digit_of, four_digits, decimals_needed, is_negative, number_text, plain_text, money_text, held_count, read_number}
use Rattle.opa_value.proofs.Digits.{own, digit_is}
use Rattle.opa_value.proofs.Spelling.{spelled_read}

digit_passes : (n : ℕ) → is_ascii_digit (digit_of n) ≡ true
digit_passes n = and_from _ _ (le-leb 48 (digit_of n) (omega arith)) (le-leb (digit_of n) 57 (omega arith))

digit_shows : (n : ℕ) → digit_value (digit_of n) ≡ n % 10
digit_shows n = digit_is (digit_of n) (omega arith) (omega arith) ∙ omega arith

behind_passes : (k size : ℕ) → k ≤ 4 → all_digits (take k (four_digits size)) ≡ true
behind_passes zero size le = refl
behind_passes (suc zero) size le = and_from _ _ (digit_passes (size / 1000)) refl
behind_passes (suc (suc zero)) size le = and_from _ _ (digit_passes (size / 1000)) (and_from _ _ (digit_passes (size / 100)) refl)
behind_passes (suc (suc (suc zero))) size le = and_from _ _ (digit_passes (size / 1000)) (and_from _ _ (digit_passes (size / 100)) (and_from _ _ (digit_passes (size / 10)) refl))
behind_passes (suc (suc (suc (suc zero)))) size le = and_from _ _ (digit_passes (size / 1000)) (and_from _ _ (digit_passes (size / 100)) (and_from _ _ (digit_passes (size / 10)) (and_from _ _ (digit_passes size) refl)))
behind_passes (suc (suc (suc (suc (suc k))))) size le = absurd (omega arith)

behind_len : (k size : ℕ) → k ≤ 4 → length (take k (four_digits size)) ≤ 4
behind_len zero size le = omega arith
behind_len (suc zero) size le = omega arith
behind_len (suc (suc zero)) size le = omega arith
behind_len (suc (suc (suc zero))) size le = omega arith
behind_len (suc (suc (suc (suc zero)))) size le = omega arith
behind_len (suc (suc (suc (suc (suc k))))) size le = absurd (omega arith)

behind_shows : (k size w : ℕ) → k ≤ 4 → w ≡ size / 10000 → size % 10 ^ (4 - k) ≡ 0 → w * 10000 + digits_value 10 (take k (four_digits size)) * 10 ^ (4 - length (take k (four_digits size))) ≡ size
behind_shows zero size w le e h = omega arith
behind_shows (suc zero) size w le e h = omega (arith, digit_shows (size / 1000))
behind_shows (suc (suc zero)) size w le e h = omega (arith, digit_shows (size / 1000), digit_shows (size / 100))
behind_shows (suc (suc (suc zero))) size w le e h = omega (arith, digit_shows (size / 1000), digit_shows (size / 100), digit_shows (size / 10))
behind_shows (suc (suc (suc (suc zero)))) size w le e h = omega (arith, digit_shows (size / 1000), digit_shows (size / 100), digit_shows (size / 10), digit_shows size)
behind_shows (suc (suc (suc (suc (suc k))))) size w le e h = absurd (omega arith)

signed_is : (count : ℤ) → count ≡ signed (is_negative count) (unsigned_abs count)
signed_is (pos n) = refl
signed_is (negsuc n) = refl

-- a text with enough decimals spells the count
pub number_spelled : (k : ℕ) (count : ℤ) → k ≤ 4 → unsigned_abs count % 10 ^ (4 - k) ≡ 0 → InRange count → Spells (number_text k count) count
unfolding number_text
number_spelled k count le enough range =
    let size : ℕ = unsigned_abs count in
    let w : ℕ = size / 10 ^ 4 in
    let small : w < 2 ^ 64 = omega arith in
    let value : digits_value 10 (decimal w) ≡ w = digits_value-decimal own w small in
    record {
      negative = is_negative count;
      whole = decimal w;
      behind = take k (four_digits size);
      written = refl;
      some = decimal_nonempty w small;
      at_most = behind_len k size le;
      whole_digits = digits_decimal own w small;
      behind_digits = behind_passes k size le;
      counted = signed_is count ∙ ap (signed (is_negative count)) (sym (ap (λ v. v * 10 ^ 4 + digits_value 10 (take k (four_digits size)) * 10 ^ (4 - length (take k (four_digits size)))) value ∙ behind_shows k size w le refl enough));
    }

abbrev Shows : ℕ → ℕ → Type 0
Shows size k = (k ≤ 4) × (size % 10 ^ (4 - k) ≡ 0)

-- the decimals that are needed are enough
pub needed_shows : (size : ℕ) → (decimals_needed size ≤ 4) × (size % 10 ^ (4 - decimals_needed size) ≡ 0)
needed_shows size =
    cond_both (eqb (size % 10 ^ 4) 0) _ _ (Shows size) (λ yes. (omega arith, eqb-true _ _ yes))
    (λ _. cond_both (eqb (size % 10 ^ 3) 0) _ _ (Shows size) (λ yes. (omega arith, eqb-true _ _ yes))
    (λ _. cond_both (eqb (size % 10 ^ 2) 0) _ _ (Shows size) (λ yes. (omega arith, eqb-true _ _ yes))
    (λ _. cond_both (eqb (size % 10) 0) 3 4 (Shows size) (λ yes. (omega arith, eqb-true _ _ yes)) (λ _. (omega arith, omega arith)))))

held_in : (count : ℤ) → InRange count → held_count (Some count) ≡ Ok count
held_in count h = cond-true (in_range count) (Ok count) (Err fault.Range) (le-leb _ _ h)

pub plain_back : (count : ℤ) → InRange count → read_number (plain_text count) ≡ Ok count
unfolding read_number plain_text
plain_back count range =
    let shows = needed_shows (unsigned_abs count) in
    ap held_count (spelled_read _ count (number_spelled (decimals_needed (unsigned_abs count)) count shows.0 shows.1 range)) ∙ held_in count range

pub money_back : (count : ℤ) → InRange count → unsigned_abs count % 100 ≡ 0 → read_number (money_text count) ≡ Ok count
unfolding read_number money_text
money_back count range enough = ap held_count (spelled_read _ count (number_spelled 2 count (omega arith) enough range)) ∙ held_in count range

pub ruleset texts = (plain_back, money_back)
