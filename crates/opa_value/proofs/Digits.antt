-- The value of digits, and the parts of a number's text.
use Rattle.std.proofs.Common.{◌≡◌, ℕ, ◌+◌, ◌*◌, ◌-◌, ◌^◌, ◌<◌, ◌≤◌, min, Bool, true, List, [], ◌∷◌, length, take, get_or, refl, ap, ◌∙◌, arith, rules}
use Rattle.std.specs.Char.{digit_value, is_ascii_digit}
use Rattle.std.specs.List.{prefix_len, take_while, list_all}
use Rattle.std.specs.Str.Parse.{digits_value, AllDigits}
use Rattle.std.proofs.lemmas.Bool.{and_parts, cond_both, leb-true}
use Rattle.std.proofs.lemmas.Bool.Decides.{nat_tests}
use Rattle.std.proofs.lemmas.Int.Digits.{digits_value_more}
use Rattle.std.proofs.lemmas.List.Sums.{prefix_len-le-length, take_while-cons}
use Rattle.std.proofs.lemmas.Str.Parse.{IsNumeralModel, numerals_by_value, digit_at}
use Rattle.opa_value.specs.Capped.{capped}
use Rattle.opa_value.specs.NumberText.{all_digits, is_decimals}

-- a text of digits, by the test of each byte
pub own : IsNumeralModel (λ ds. all_digits ds ≡ true) (digits_value 10)
own = numerals_by_value _ (search rules)

pub digit_is : (c : ℕ) → 48 ≤ c → c ≤ 57 → digit_value c ≡ c - 48
digit_is c low high = grind (arith, nat_tests)

pub digit_low : (ds : List ℕ) (i : ℕ) → AllDigits 10 ds → i < length ds → 48 ≤ get_or ds i 0
digit_low ds i all inside = (digit_at ds i all inside).0

-- one digit more
pub capped_more : (ds : List ℕ) (i v : ℕ) → AllDigits 10 ds → i < length ds → v ≡ capped (digits_value 10 (take i ds)) → min (min (v * 10) (2 ^ 64 - 1) + (get_or ds i 0 - 48)) (2 ^ 64 - 1) ≡ capped (digits_value 10 (take (i + 1) ds))
capped_more ds i v all inside e =
    let digit = digit_at ds i all inside in
    let is = digit_is (get_or ds i 0) digit.0 digit.1 in
    omega (arith, e, is, digits_value_more 10 ds i inside)

pub ruleset digit_steps = (digit_low, capped_more)

-- a sum of products that stops at the greatest u64
capped_product : (n s : ℕ) → 0 < s → min (min n (2 ^ 64 - 1) * s) (2 ^ 64 - 1) ≡ min (n * s) (2 ^ 64 - 1)
capped_product n s some = grind (arith)

pub capped_sum : (w b s : ℕ) → 0 < s → min (min (min w (2 ^ 64 - 1) * 10000) (2 ^ 64 - 1) + min (min b (2 ^ 64 - 1) * s) (2 ^ 64 - 1)) (2 ^ 64 - 1) ≡ min (w * 10000 + b * s) (2 ^ 64 - 1)
capped_sum w b s some = omega (arith, capped_product b s some)

-- digits begin a text no further than to its end
pub front_within : (text : List ℕ) → prefix_len is_ascii_digit text ≤ length text
front_within text = prefix_len-le-length is_ascii_digit text

-- what a text begins with passes
pub front_passes : (p : ℕ → Bool) (xs : List ℕ) → list_all p (take_while p xs) ≡ true
front_passes p [] = refl
front_passes p (x ∷ xs) =
    ap (list_all p) (take_while-cons p x xs)
    ∙ cond_both (p x) (x ∷ take_while p xs) [] (λ ys. list_all p ys ≡ true) (λ yes. rw yes (front_passes p xs)) (λ _. refl)

-- what is_decimals says
pub decimals_say : (ds : List ℕ) → is_decimals ds ≡ true → (0 < length ds) × (length ds ≤ 4) × (all_digits ds ≡ true)
decimals_say ds h =
    let some = and_parts _ _ h in
    let rest = and_parts _ _ some.1 in
    (leb-true _ _ some.0, leb-true _ _ rest.0, rest.1)

-- the digits that a text begins with
pub front_digits : (text whole : List ℕ) (count : ℕ) → count ≡ prefix_len is_ascii_digit text → whole ≡ take count text → AllDigits 10 whole
front_digits text whole count e is =
    own.to whole (ap (list_all is_ascii_digit) (is ∙ ap (λ n. take n text) e) ∙ front_passes is_ascii_digit text)

-- digits by the test of the whole
pub decimals_digits : (ds : List ℕ) → is_decimals ds ≡ true → AllDigits 10 ds × (length ds ≤ 4)
decimals_digits ds h = let say = decimals_say ds h in (own.to ds say.2, say.1)
