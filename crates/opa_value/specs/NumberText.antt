-- The texts of numbers.
use Rattle.std.specs.Prelude.{◌≡◌, ℕ, ◌+◌, ◌*◌, ◌-◌, ◌^◌, ◌<◌, ◌≤◌, ◌/◌, ◌%◌, ℤ, pos, negsuc, neg_ℤ, decimal, Bool, true, false, ◌&&◌, List, [], ◌∷◌, ◌++◌, length, take, drop, Option, Some, None, Result, Ok, Err, nat_lt, nat_le, if◌then◌else◌, ◌==◌}
use Rattle.std.specs.Char.{is_ascii_digit}
use Rattle.std.specs.Int.RustNames.{unsigned_abs}
use Rattle.std.specs.List.{list_all, prefix_len}
use Rattle.std.specs.Option.{option_map}
use Rattle.std.specs.Str.Parse.{digits_value, starts_with_minus}
use Rattle.opa_value.specs.declared.number.NumFault.{NumFault}
use Rattle.opa_value.specs.declared.number.NumFault.TheVariants as fault
use Rattle.opa_value.specs.Numbers.{InRange, in_range}

abbrev pub all_digits : List ℕ → Bool
all_digits text = list_all is_ascii_digit text

-- the count of a number without a sign, with these digits before and behind its point
abbrev pub size_of : List ℕ → List ℕ → ℕ
size_of whole behind = digits_value 10 whole * 10 ^ 4 + digits_value 10 behind * 10 ^ (4 - length behind)

abbrev pub signed : Bool → ℕ → ℤ
signed negative size = if negative then neg_ℤ (pos size) else pos size

abbrev pub sign_text : Bool → List ℕ
sign_text negative = if negative then 45 ∷ [] else []

-- the digits behind the point, and the point where there are any
abbrev pub behind_text : List ℕ → List ℕ
behind_text [] = []
behind_text (digit ∷ digits) = 46 ∷ digit ∷ digits

-- A number's text: an optional minus, one or more digits, and optionally a point with one to four digits.
pub record Spells (text : List ℕ) (count : ℤ) : Type 0 where
  pub negative : Bool
  pub whole : List ℕ
  pub behind : List ℕ
  pub written : text ≡ sign_text negative ++ (whole ++ behind_text behind)
  pub some : 0 < length whole
  pub at_most : length behind ≤ 4
  pub whole_digits : all_digits whole ≡ true
  pub behind_digits : all_digits behind ≡ true
  pub counted : count ≡ signed negative (size_of whole behind)

-- one to four digits
abbrev pub is_decimals : List ℕ → Bool
is_decimals digits = nat_lt 0 (length digits) && (nat_le (length digits) 4 && all_digits digits)

-- the digits of nothing, or of a point with one to four digits
abbrev pub behind_of : List ℕ → Option (List ℕ)
behind_of [] = Some []
behind_of (c ∷ digits) = if (c == 46) && is_decimals digits then Some digits else None

-- the digits before and behind the point of a text without a sign, where it has the form
abbrev pub parts_of : List ℕ → Option (List ℕ × List ℕ)
parts_of text =
    let count = prefix_len is_ascii_digit text in
    if nat_lt 0 count then option_map (λ behind. (take count text, behind)) (behind_of (drop count text)) else None

-- the text behind its sign
abbrev pub without_minus : List ℕ → List ℕ
without_minus text = if starts_with_minus text then drop 1 text else text

-- the count that a text spells, where it has the form
unfoldable pub count_of : List ℕ → Option ℤ
count_of text = option_map (λ parts. signed (starts_with_minus text) (size_of parts.0 parts.1)) (parts_of (without_minus text))

-- what a count that was read gives: the form comes before the range
abbrev pub held_count : Option ℤ → Result ℤ NumFault
held_count None = Err fault.Form
held_count (Some count) = if in_range count then Ok count else Err fault.Range

-- what reading the text of a number gives
unfoldable pub read_number : List ℕ → Result ℤ NumFault
read_number text = held_count (count_of text)

-- What is read of a text: the count that it spells, where that is a number's. A fault of form says that it spells none,
-- a fault of range that the count it spells is out of range.
abbrev pub Reads : List ℕ → Result ℤ NumFault → Type 0
Reads text (Ok count) = Spells text count × InRange count
Reads text (Err fault.Form) = (count : ℤ) → ¬ Spells text count
Reads text (Err fault.Range) = (count : ℤ) × Spells text count × (¬ InRange count)

-- a digit's text
abbrev pub digit_of : ℕ → ℕ
digit_of n = 48 + n % 10

-- the four digits of a size behind the point
abbrev pub four_digits : ℕ → List ℕ
four_digits size = digit_of (size / 1000) ∷ digit_of (size / 100) ∷ digit_of (size / 10) ∷ digit_of size ∷ []

-- how many of them there are when the zeros at the end are left out
abbrev pub decimals_needed : ℕ → ℕ
decimals_needed size =
    if size % 10 ^ 4 == 0 then 0 else
    if size % 10 ^ 3 == 0 then 1 else
    if size % 10 ^ 2 == 0 then 2 else
    if size % 10 == 0 then 3 else 4

abbrev pub is_negative : ℤ → Bool
is_negative (pos _) = false
is_negative (negsuc _) = true

-- the text of a count with so many decimals: its sign, its whole part without leading zeros, and the decimals
unfoldable pub number_text : ℕ → ℤ → List ℕ
number_text decimals count =
    let size = unsigned_abs count in
    sign_text (is_negative count) ++ (decimal (size / 10 ^ 4) ++ behind_text (take decimals (four_digits size)))

-- with the decimals that it needs
unfoldable pub plain_text : ℤ → List ℕ
plain_text count = number_text (decimals_needed (unsigned_abs count)) count

-- with two decimals
unfoldable pub money_text : ℤ → List ℕ
money_text count = number_text 2 count
