-- Texts of parts of lines hold no mark outside quotes.
use Rattle.std.proofs.Common.{◌≡◌, ℕ, zero, suc, ◌+◌, ◌<◌, ◌%◌, ◌/◌, ◌^◌, ℤ, List, [], ◌∷◌, ◌++◌, take, Bool, true, false, cond, not, ◌&&◌, ◌||◌, ◌==◌, decimal, refl, sym, ap, ◌∙◌, arith, append_assoc, append-nil}
use Rattle.std.specs.Prelude.{Option, Some, None, codes, unsigned_abs}
use Rattle.std.specs.Char.{is_ascii_digit}
use Rattle.std.specs.List.{list_all, list_any}
use Rattle.std.specs.Str.{IsUtf8}
use Rattle.std.proofs.lemmas.Bool.{and_parts, and_from, or_parts, or_from, not-true}
use Rattle.std.proofs.lemmas.Fmt.{digits_decimal}
use Rattle.opa_date.specs.declared.TheConstants.{DAYS}
use Rattle.opa_date.specs.Gregorian.{date_of}
use Rattle.opa_date.specs.Texts.{day_text}
use Rattle.opa_date.proofs.ReadTexts.{texts_are_read}
use Rattle.opa_model.specs.declared.things.Kind.{Kind}
use Rattle.opa_model.specs.declared.things.Kind.TheVariants as kinds
use Rattle.opa_value.specs.declared.value.Value.{Value}
use Rattle.opa_value.specs.declared.value.Value.TheVariants as value
use Rattle.opa_value.specs.Numbers.{InRange}
use Rattle.opa_value.specs.NumberText.{number_text as text_with, plain_text, money_text, is_negative, sign_text, behind_text, four_digits, digit_of, decimals_needed, all_digits}
use Rattle.opa_value.proofs.Digits.{own}
use Rattle.opa_words.specs.Kinds.{doubled, quoted, is_date}
use Rattle.opa_words.specs.Quotes.{HasNoQuote}
use Rattle.opa_words.proofs.Ascii.{ascii_utf8, is_ascii}
use Rattle.opa_words.proofs.LawsHold.{quoted_is_token_holds}
use Rattle.opa_words.proofs.Letters.{date_parts}
use Rattle.opa_words.proofs.Separate.{all_wider, all_append, dated, date_dated}
use Rattle.opa_text.specs.Laws.{CanBeWritten}
use Rattle.opa_text.specs.Texts.{value_text, number_text}
use Rattle.opa_text.proofs.WrittenValues.{form_date, day_form}
use Rattle.opa_verify.specs.Spelling.Cuts.{is_mark, calm}
use Rattle.opa_verify.specs.Spelling.Printed.{spot_text, name_part}
use Rattle.opa_verify.specs.Spelling.Spelling.{is_sign, is_plain, IsSpot}
use Rattle.opa_verify.specs.declared.spelling.printed.Spot.{Spot}

-- no quote, comma or colon
abbrev unsigned : ℕ → Bool
unsigned b = not (is_sign b)

pub plain_calm : (xs ys : List ℕ) → is_plain xs ≡ true → calm false (xs ++ ys) ≡ calm false ys
plain_calm [] ys h = refl
plain_calm (x ∷ xs) ys h =
    let both = and_parts (unsigned x) (is_plain xs) h in
    let parts = or_parts (x == 34) (is_mark x) (not-true (is_sign x) both.0) in
    ap (λ t. cond t (calm true (xs ++ ys)) ((false || not (is_mark x)) && calm false (xs ++ ys))) parts.0
    ∙ ap (λ t. not t && calm false (xs ++ ys)) parts.1 ∙ plain_calm xs ys both.1

pub plain_no_quote : (xs : List ℕ) → is_plain xs ≡ true → HasNoQuote xs
plain_no_quote [] h = refl
plain_no_quote (x ∷ xs) h =
    let both = and_parts (unsigned x) (is_plain xs) h in
    or_from (x == 34) (list_any (λ b. b == 34) xs) (or_parts (x == 34) (is_mark x) (not-true (is_sign x) both.0)).0 (plain_no_quote xs both.1)

inner_calm : (n ys : List ℕ) → calm true ((doubled n ++ 34 ∷ []) ++ ys) ≡ calm false ys
inner_calm [] ys = refl
inner_calm (c ∷ n) ys = go (c == 34) refl (inner_calm n ys)
  where
    go : (b : Bool) → (c == 34) ≡ b → calm true ((doubled n ++ 34 ∷ []) ++ ys) ≡ calm false ys → calm true ((cond b (34 ∷ 34 ∷ doubled n) (c ∷ doubled n) ++ 34 ∷ []) ++ ys) ≡ calm false ys
    go true e h = h
    go false e h =
        ap (λ t. cond t (calm false ((doubled n ++ 34 ∷ []) ++ ys)) ((true || not (is_mark c)) && calm true ((doubled n ++ 34 ∷ []) ++ ys))) e ∙ h

pub quoted_calm : (n ys : List ℕ) → calm false (quoted n ++ ys) ≡ calm false ys
quoted_calm n ys = inner_calm n ys

name_calm : (o : Option (List ℕ)) (ys : List ℕ) → calm false (name_part o ++ ys) ≡ calm false ys
name_calm None ys = refl
name_calm (Some n) ys = quoted_calm n ys

pub spot_calm : (p : Spot) → IsSpot p → (ys : List ℕ) → calm false (spot_text p ++ ys) ≡ calm false ys
spot_calm p is ys = ap (calm false) (append_assoc p.phrase (name_part p.name) ys) ∙ plain_calm p.phrase (name_part p.name ++ ys) is.0.plain ∙ name_calm p.name ys

-- ---- values

-- digits, hyphens and points
abbrev pub tame : ℕ → Bool
tame c = is_ascii_digit c || ((c == 45) || (c == 46))

tame_plain : (c : ℕ) → tame c ≡ true → unsigned c ≡ true
tame_plain c h = grind (arith, h)

tame_ascii : (c : ℕ) → tame c ≡ true → is_ascii c ≡ true
tame_ascii c h = grind (arith, h)

digit_tame : (c : ℕ) → is_ascii_digit c ≡ true → tame c ≡ true
digit_tame c h = ap (λ t. t || ((c == 45) || (c == 46))) h

digits_tame : (xs : List ℕ) → all_digits xs ≡ true → list_all tame xs ≡ true
digits_tame xs h = all_wider is_ascii_digit tame xs digit_tame h

low_digit : (n : ℕ) → n < 10 → is_ascii_digit (48 + n) ≡ true
low_digit n h = grind (arith, h)

digit_of_tame : (n : ℕ) → tame (digit_of n) ≡ true
digit_of_tame n = let lt : n % 10 < 10 = omega arith in digit_tame (48 + n % 10) (low_digit (n % 10) lt)

tame_take : (k : ℕ) (xs : List ℕ) → list_all tame xs ≡ true → list_all tame (take k xs) ≡ true
tame_take zero xs h = refl
tame_take (suc k) [] h = refl
tame_take (suc k) (x ∷ xs) h = let both = and_parts (tame x) (list_all tame xs) h in and_from (tame x) (list_all tame (take k xs)) both.0 (tame_take k xs both.1)

behind_tame : (ds : List ℕ) → list_all tame ds ≡ true → list_all tame (behind_text ds) ≡ true
behind_tame [] h = refl
behind_tame (d ∷ ds) h = h

sign_tame : (b : Bool) → list_all tame (sign_text b) ≡ true
sign_tame true = refl
sign_tame false = refl

four_tame : (size : ℕ) → list_all tame (four_digits size) ≡ true
four_tame size =
    let d : (n : ℕ) (rest : List ℕ) → list_all tame rest ≡ true → list_all tame (digit_of n ∷ rest) ≡ true = λ n rest h. and_from (tame (digit_of n)) (list_all tame rest) (digit_of_tame n) h in
    d (size / 1000) (digit_of (size / 100) ∷ digit_of (size / 10) ∷ digit_of size ∷ []) (d (size / 100) (digit_of (size / 10) ∷ digit_of size ∷ []) (d (size / 10) (digit_of size ∷ []) (d size [] refl)))

with_tame : (k : ℕ) (n : ℤ) → InRange n → list_all tame (text_with k n) ≡ true
unfolding text_with
with_tame k n range =
    let size : ℕ = unsigned_abs n in
    let w : ℕ = size / 10 ^ 4 in
    let small : w < 2 ^ 64 = omega (arith, range) in
    all_append tame (sign_text (is_negative n)) (decimal w ++ behind_text (take k (four_digits size))) (sign_tame (is_negative n))
    (all_append tame (decimal w) (behind_text (take k (four_digits size))) (digits_tame (decimal w) (digits_decimal own w small)) (behind_tame (take k (four_digits size)) (tame_take k (four_digits size) (four_tame size))))

pub number_tame : (k : Kind) (n : ℤ) → InRange n → list_all tame (number_text k n) ≡ true
unfolding plain_text money_text
number_tame kinds.Currency n r = with_tame 2 n r
number_tame kinds.Bool n r = with_tame (decimals_needed (unsigned_abs n)) n r
number_tame kinds.Number n r = with_tame (decimals_needed (unsigned_abs n)) n r
number_tame kinds.Words n r = with_tame (decimals_needed (unsigned_abs n)) n r
number_tame kinds.Date n r = with_tame (decimals_needed (unsigned_abs n)) n r

dated_tame : (c : ℕ) → dated c ≡ true → tame c ≡ true
dated_tame c h = grind (arith, h)

pub day_tame : (d : ℕ) → d < DAYS → list_all tame (day_text d) ≡ true
day_tame d h =
    let y = unsigned_abs (date_of d).year in
    let m = (date_of d).month in
    let n = (date_of d).day in
    let is : is_date (day_text d) ≡ true = form_date (48 + y / 1000) (48 + y / 100 % 10) (48 + y / 10 % 10) (48 + y % 10) (48 + m / 10) (48 + m % 10) (48 + n / 10) (48 + n % 10) (day_form (day_text d) d (texts_are_read d h)) in
    all_wider dated tame (day_text d) dated_tame (date_dated (day_text d) (date_parts (day_text d) is))

pub tame_is_plain : (xs : List ℕ) → list_all tame xs ≡ true → is_plain xs ≡ true
tame_is_plain xs h = all_wider tame unsigned xs tame_plain h

pub tame_utf8 : (xs : List ℕ) → list_all tame xs ≡ true → IsUtf8 xs
tame_utf8 xs h = ascii_utf8 xs (all_wider tame is_ascii xs tame_ascii h)

pub value_calm : (k : Kind) (v : Value) → CanBeWritten k v → (ys : List ℕ) → calm false (value_text k v ++ ys) ≡ calm false ys
value_calm k value.Unknown h ys = plain_calm (codes "unknown") ys refl
value_calm k value.Uncertain h ys = plain_calm (codes "uncertain") ys refl
value_calm k (value.Bool true) h ys = plain_calm (codes "true") ys refl
value_calm k (value.Bool false) h ys = plain_calm (codes "false") ys refl
value_calm k (value.Num n) h ys = plain_calm (number_text k n) ys (tame_is_plain (number_text k n) (number_tame k n h.0))
value_calm k (value.Words t) h ys = quoted_calm t ys
value_calm k (value.Day d) h ys = plain_calm (day_text d) ys (tame_is_plain (day_text d) (day_tame d h))

pub value_utf8 : (k : Kind) (v : Value) → CanBeWritten k v → IsUtf8 (value_text k v)
value_utf8 k value.Unknown h = ascii_utf8 (codes "unknown") refl
value_utf8 k value.Uncertain h = ascii_utf8 (codes "uncertain") refl
value_utf8 k (value.Bool true) h = ascii_utf8 (codes "true") refl
value_utf8 k (value.Bool false) h = ascii_utf8 (codes "false") refl
value_utf8 k (value.Num n) h = tame_utf8 (number_text k n) (number_tame k n h.0)
value_utf8 k (value.Words t) h = (quoted_is_token_holds t h.utf8 h.plain).utf8
value_utf8 k (value.Day d) h = tame_utf8 (day_text d) (day_tame d h)

-- ---- whole texts

pub calm_spot : (p : Spot) → IsSpot p → calm false (spot_text p) ≡ true
calm_spot p is = ap (calm false) (sym (append-nil (spot_text p))) ∙ spot_calm p is []

pub calm_value : (k : Kind) (v : Value) → CanBeWritten k v → calm false (value_text k v) ≡ true
calm_value k v h = ap (calm false) (sym (append-nil (value_text k v))) ∙ value_calm k v h []
