-- Values as they are written token by token.
use Rattle.std.proofs.Common.{◌≡◌, ◌<◌, ◌≤◌, ℕ, ℤ, pos, negsuc, List, [], ◌∷◌, ◌++◌, length, take, Bool, true, false, refl, sym, ap, subst, ◌∙◌, arith, append-nil, decimal}
use Rattle.std.proofs.Common.{inl, inr}
use Rattle.std.specs.Prelude.{Ok, Err, not, neg_ℤ, ◌-◌, codes, ◌||◌, ◌/◌, ◌%◌, ◌^◌, ◌+◌, if◌then◌else◌}
use Rattle.std.specs.List.{list_all}
use Rattle.std.specs.Str.{chars}
use Rattle.std.specs.Int.RustNames.{unsigned_abs}
use Rattle.std.specs.Char.{is_ascii_digit}
use Rattle.std.proofs.lemmas.Fmt.{decimal_nonempty, digits_decimal}
use Rattle.std.proofs.lemmas.Bool.{and_from}
use Rattle.ucd_derived.proofs.Computing.{ucd_derived}
use Rattle.opa_io.proofs.Bools.{and_first, or_more}
use Rattle.opa_value.specs.declared.value.Value.{Value}
use Rattle.opa_value.specs.declared.value.Value.TheVariants as value
use Rattle.opa_value.specs.Numbers.{InRange}
use Rattle.opa_value.specs.NumberText.{read_number, number_text as text_with, plain_text, money_text, is_negative, sign_text, behind_text, four_digits, decimals_needed, all_digits}
use Rattle.opa_value.proofs.Digits.{own}
use Rattle.opa_value.proofs.ReadBack.{number_spelled, needed_shows, plain_back, money_back}
use Rattle.opa_date.specs.declared.TheConstants.{DAYS}
use Rattle.opa_date.specs.Gregorian.{date_of}
use Rattle.opa_date.specs.Texts.{day_text, read_day, is_day_form, day_of_named, named_date}
use Rattle.opa_date.specs.declared.fault.DayFault.TheVariants.{Form}
use Rattle.opa_date.proofs.ReadTexts.{texts_are_read}
use Rattle.opa_words.specs.declared.kinds.TokenKind.TheVariants as kind
use Rattle.opa_words.specs.Kinds.{IsToken, IsNumber, is_date, is_word}
use Rattle.opa_model.specs.declared.things.Kind.{Kind}
use Rattle.opa_model.specs.declared.things.Kind.TheVariants as kinds
use Rattle.opa_words.specs.Pieces.{Piece, IsPiece, word, number, date, symbol, text}
use Rattle.opa_words.specs.Written.{Written, AreWritten, text_of, pieces_of, gap, joined, ends_before, begins_apart, stands_alone}
use Rattle.opa_words.proofs.Ascii.{is_ascii, ascii_chars}
use Rattle.opa_words.proofs.LawsHold.{ascii_is_token_holds, quoted_is_token_holds}
use Rattle.opa_words.proofs.Letters.{date_parts}
use Rattle.opa_words.proofs.Separate.{all_wider, numeric, dated, number_numeric, date_dated}
use Rattle.opa_text.specs.Texts.{value_text, number_text, bool_text}
use Rattle.opa_text.specs.Spelled.{SpellsNumber, SpellsValue}
use Rattle.opa_text.specs.Laws.{CanBeWritten, HasDecimals}

-- ---- numbers without a sign

pub digits_text : ℕ → ℕ → List ℕ
digits_text k size = decimal (size / 10 ^ 4) ++ behind_text (take k (four_digits size))

-- how many decimals are shown
abbrev pub shown : Kind → ℕ → ℕ
shown kinds.Currency size = 2
shown k size = decimals_needed size

pub numeric_ascii : (c : ℕ) → numeric c ≡ true → is_ascii c ≡ true
numeric_ascii c h = grind (arith, h)

dated_ascii : (c : ℕ) → dated c ≡ true → is_ascii c ≡ true
dated_ascii c h = grind (arith, h)

pub behind_digits : (ds : List ℕ) (whole : List ℕ) → all_digits whole ≡ true → 0 < length whole → all_digits ds ≡ true → length ds ≤ 4 → IsNumber (whole ++ behind_text ds)
behind_digits [] whole w n h m = subst IsNumber (sym (append-nil whole)) (inl (w, n))
behind_digits (d ∷ ds) whole w n h m = inr (whole, d ∷ ds, (w, n), (h, omega arith), m, refl)

pub sign_first : (b : Bool) (whole rest : List ℕ) (t : List ℕ) → all_digits t ≡ true → 0 < length t → (more : List ℕ) → t ++ more ≡ sign_text b ++ (whole ++ rest) → b ≡ false
sign_first false whole rest t h n more e = refl
sign_first true whole rest [] h n more e = absurd (omega (arith, n))
sign_first true whole rest (c ∷ t) h n more e =
    let f : c ≡ 45 = cc e in
    absurd (let g : is_ascii_digit 45 ≡ true = subst (λ x. is_ascii_digit x ≡ true) f (and_first (is_ascii_digit c) (all_digits t) h) in cc g)

digits_number : (k size : ℕ) → k ≤ 4 → size % 10 ^ (4 - k) ≡ 0 → InRange (pos size) → IsNumber (digits_text k size)
unfolding digits_text text_with
digits_number k size le enough range =
    let w : ℕ = size / 10 ^ 4 in
    let small : w < 2 ^ 64 = omega arith in
    let s = number_spelled k (pos size) le enough range in
    let plain : s.negative ≡ false = sign_first s.negative s.whole (behind_text s.behind) (decimal w) (digits_decimal own w small) (decimal_nonempty w small) (behind_text (take k (four_digits size))) s.written in
    subst IsNumber (sym (s.written ∙ ap (λ b. sign_text b ++ (s.whole ++ behind_text s.behind)) plain)) (behind_digits s.behind s.whole s.whole_digits s.some s.behind_digits s.at_most)

shown_enough : (k : Kind) (size : ℕ) → HasDecimals k size → (shown k size ≤ 4) × (size % 10 ^ (4 - shown k size) ≡ 0)
shown_enough kinds.Currency size h = (omega arith, h)
shown_enough kinds.Bool size h = needed_shows size
shown_enough kinds.Number size h = needed_shows size
shown_enough kinds.Words size h = needed_shows size
shown_enough kinds.Date size h = needed_shows size

digits_back : (k : Kind) (size : ℕ) → HasDecimals k size → InRange (pos size) → read_number (digits_text (shown k size) size) ≡ Ok (pos size)
unfolding digits_text text_with plain_text money_text
digits_back kinds.Currency size h r = money_back (pos size) r h
digits_back kinds.Bool size h r = plain_back (pos size) r
digits_back kinds.Number size h r = plain_back (pos size) r
digits_back kinds.Words size h r = plain_back (pos size) r
digits_back kinds.Date size h r = plain_back (pos size) r

number_parts : (k : Kind) (n : ℤ) → number_text k n ≡ sign_text (is_negative n) ++ digits_text (shown k (unsigned_abs n)) (unsigned_abs n)
unfolding digits_text text_with plain_text money_text
number_parts kinds.Currency n = refl
number_parts kinds.Bool n = refl
number_parts kinds.Number n = refl
number_parts kinds.Words n = refl
number_parts kinds.Date n = refl

digits_piece : (k : Kind) (size : ℕ) → HasDecimals k size → InRange (pos size) → IsPiece (number (digits_text (shown k size) size))
digits_piece k size h r =
    let e = shown_enough k size h in
    let is = digits_number (shown k size) size e.0 e.1 r in
    ascii_is_token_holds kind.Number (digits_text (shown k size) size) (all_wider numeric is_ascii (digits_text (shown k size) size) numeric_ascii (number_numeric (digits_text (shown k size) size) is)) is

-- ---- days

pub form_date : (a b c d f g i j : ℕ) → is_day_form (a ∷ b ∷ c ∷ d ∷ 45 ∷ f ∷ g ∷ 45 ∷ i ∷ j ∷ []) ≡ true → is_date (a ∷ b ∷ c ∷ d ∷ 45 ∷ f ∷ g ∷ 45 ∷ i ∷ j ∷ []) ≡ true
form_date a b c d f g i j h = grind (arith, h)

pub day_form : (t : List ℕ) (d : ℕ) → read_day t ≡ Ok d → is_day_form t ≡ true
day_form t d e = go (is_day_form t) refl
  where
    go : (b : Bool) → is_day_form t ≡ b → is_day_form t ≡ true
    go true h = h
    go false h = absurd (let f = sym (ap (λ b. if not b then Err Form else day_of_named (named_date t)) h) ∙ e in cc f)

pub date_piece : (d : ℕ) → d < DAYS → IsPiece (date (day_text d))
date_piece d h =
    let y = unsigned_abs (date_of d).year in
    let m = (date_of d).month in
    let n = (date_of d).day in
    let is : is_date (day_text d) ≡ true = form_date (48 + y / 1000) (48 + y / 100 % 10) (48 + y / 10 % 10) (48 + y % 10) (48 + m / 10) (48 + m % 10) (48 + n / 10) (48 + n % 10) (day_form (day_text d) d (texts_are_read d h)) in
    ascii_is_token_holds kind.Date (day_text d) (all_wider dated is_ascii (day_text d) dated_ascii (date_dated (day_text d) (date_parts (day_text d) is))) is

-- ---- words

pub named_piece : (w : List ℕ) → list_all is_ascii w ≡ true → is_word w ≡ true → IsPiece (word w)
named_piece w h t = ascii_is_token_holds kind.Word w h t

unknown_word : is_word (codes "unknown") ≡ true
unfolding ucd_derived
unknown_word = refl

uncertain_word : is_word (codes "uncertain") ≡ true
unfolding ucd_derived
uncertain_word = refl

bool_word : (b : Bool) → is_word (bool_text b) ≡ true
unfolding ucd_derived
bool_word true = refl
bool_word false = refl

bool_ascii : (b : Bool) → list_all is_ascii (bool_text b) ≡ true
bool_ascii true = refl
bool_ascii false = refl

from_word : is_word (codes "from") ≡ true
unfolding ucd_derived
from_word = refl

none_word : is_word (codes "none") ≡ true
unfolding ucd_derived
none_word = refl

pub from_piece : IsPiece (word (codes "from"))
from_piece = named_piece (codes "from") refl from_word

pub none_piece : IsPiece (word (codes "none"))
none_piece = named_piece (codes "none") refl none_word

signed_piece : (c : ℕ) → is_ascii c ≡ true → IsToken kind.Symbol (c ∷ []) → IsPiece (symbol (c ∷ []))
signed_piece c h t = ascii_is_token_holds kind.Symbol (c ∷ []) (and_from (is_ascii c) true h refl) t

pub semicolon_piece : IsPiece (symbol (codes ";"))
semicolon_piece = signed_piece 59 refl refl

pub comma_piece : IsPiece (symbol (codes ","))
comma_piece = signed_piece 44 refl refl

minus_piece : IsPiece (symbol (codes "-"))
minus_piece = signed_piece 45 refl refl

-- ---- a value before what is written after it

pub number_tokens : Bool → Bool → List ℕ → List Written → List Written
number_tokens s true t rest = record { spaced = s; piece = symbol (codes "-") } ∷ joined (number t) ∷ rest
number_tokens s false t rest = record { spaced = s; piece = number t } ∷ rest

abbrev pub written : Bool → Kind → Value → List Written → List Written
written s k value.Unknown rest = record { spaced = s; piece = word (codes "unknown") } ∷ rest
written s k value.Uncertain rest = record { spaced = s; piece = word (codes "uncertain") } ∷ rest
written s k (value.Bool b) rest = record { spaced = s; piece = word (bool_text b) } ∷ rest
written s k (value.Num n) rest = number_tokens s (is_negative n) (digits_text (shown k (unsigned_abs n)) (unsigned_abs n)) rest
written s k (value.Words t) rest = record { spaced = s; piece = text t } ∷ rest
written s k (value.Day d) rest = record { spaced = s; piece = date (day_text d) } ∷ rest

-- the rest begins apart from what stands before it
abbrev pub Apart : List Written → Type 0
Apart [] = Unit {0}
Apart (w ∷ ws) = (w.spaced || begins_apart (chars w.piece.text)) ≡ true

pub apart_ends : (p : Piece) (ws : List Written) → Apart ws → ends_before p ws ≡ true
apart_ends p [] h = refl
apart_ends p (w ∷ ws) h = or_more w.spaced (begins_apart (chars w.piece.text)) _ h

one_written : (s : Bool) (p : Piece) (rest : List Written) → IsPiece p → Apart rest → AreWritten rest → AreWritten (record { spaced = s; piece = p } ∷ rest)
one_written s p rest t a h = (t, apart_ends p rest a, h)

minus_ends : (t : List ℕ) (rest : List Written) → ends_before (symbol (codes "-")) (joined (number t) ∷ rest) ≡ true
minus_ends t rest = ap (λ cs. begins_apart (chars t) || stands_alone cs) (ascii_chars (codes "-") refl) ∙ or_true (begins_apart (chars t))
  where
    or_true : (b : Bool) → (b || true) ≡ true
    or_true true = refl
    or_true false = refl

number_written : (s b : Bool) (t : List ℕ) (rest : List Written) → IsPiece (number t) → Apart rest → AreWritten rest → AreWritten (number_tokens s b t rest)
unfolding number_tokens
number_written s false t rest p a h = one_written s (number t) rest p a h
number_written s true t rest p a h = (minus_piece, minus_ends t rest, one_written false (number t) rest p a h)

positive_range : (n : ℤ) → InRange n → InRange (pos (unsigned_abs n))
positive_range n h = h

pub value_written : (s : Bool) (k : Kind) (v : Value) (rest : List Written) → CanBeWritten k v → Apart rest → AreWritten rest → AreWritten (written s k v rest)
value_written s k value.Unknown rest c a h = one_written s (word (codes "unknown")) rest (named_piece (codes "unknown") refl unknown_word) a h
value_written s k value.Uncertain rest c a h = one_written s (word (codes "uncertain")) rest (named_piece (codes "uncertain") refl uncertain_word) a h
value_written s k (value.Bool b) rest c a h = one_written s (word (bool_text b)) rest (named_piece (bool_text b) (bool_ascii b) (bool_word b)) a h
value_written s k (value.Num n) rest c a h =
    number_written s (is_negative n) (digits_text (shown k (unsigned_abs n)) (unsigned_abs n)) rest (digits_piece k (unsigned_abs n) c.1 (positive_range n c.0)) a h
value_written s k (value.Words t) rest c a h = one_written s (text t) rest (quoted_is_token_holds t c.utf8 c.plain) a h
value_written s k (value.Day d) rest c a h = one_written s (date (day_text d)) rest (date_piece d c) a h

number_says : (s b : Bool) (t : List ℕ) (rest : List Written) → text_of (number_tokens s b t rest) ≡ gap s ++ ((sign_text b ++ t) ++ text_of rest)
unfolding number_tokens
number_says s false t rest = refl
number_says s true t rest = refl

-- the text is the value's text
pub value_says : (s : Bool) (k : Kind) (v : Value) (rest : List Written) → text_of (written s k v rest) ≡ gap s ++ (value_text k v ++ text_of rest)
value_says s k value.Unknown rest = refl
value_says s k value.Uncertain rest = refl
value_says s k (value.Bool b) rest = refl
value_says s k (value.Num n) rest =
    number_says s (is_negative n) (digits_text (shown k (unsigned_abs n)) (unsigned_abs n)) rest ∙ ap (λ t. gap s ++ (t ++ text_of rest)) (sym (number_parts k n))
value_says s k (value.Words t) rest = refl
value_says s k (value.Day d) rest = refl

size_of_sign : (b : Bool) (n : ℤ) → is_negative n ≡ b → (if b then neg_ℤ n else n) ≡ pos (unsigned_abs n)
size_of_sign true (pos n) e = absurd (cc e)
size_of_sign true (negsuc n) e = refl
size_of_sign false (pos n) e = refl
size_of_sign false (negsuc n) e = absurd (cc e)

number_spells : (s b : Bool) (t : List ℕ) (n : ℤ) (rest : List Written) → is_negative n ≡ b → read_number t ≡ Ok (pos (unsigned_abs n)) → SpellsNumber n (pieces_of (number_tokens s b t rest)) (pieces_of rest)
unfolding number_tokens
number_spells s false t n rest e r = inl (t, refl, r ∙ ap (λ x. Ok x) (sym (size_of_sign false n e)))
number_spells s true t n rest e r = inr (t, refl, r ∙ ap (λ x. Ok x) (sym (size_of_sign true n e)))

-- its tokens spell the value
pub value_spells : (s : Bool) (k : Kind) (v : Value) (rest : List Written) → CanBeWritten k v → SpellsValue v (pieces_of (written s k v rest)) (pieces_of rest)
value_spells s k value.Unknown rest c = refl
value_spells s k value.Uncertain rest c = refl
value_spells s k (value.Bool b) rest c = refl
value_spells s k (value.Num n) rest c =
    number_spells s (is_negative n) (digits_text (shown k (unsigned_abs n)) (unsigned_abs n)) n rest refl (digits_back k (unsigned_abs n) c.1 (positive_range n c.0))
value_spells s k (value.Words t) rest c = refl
value_spells s k (value.Day d) rest c = (day_text d, refl, texts_are_read d c)

number_ends : (p : Piece) (b : Bool) (t : List ℕ) (rest : List Written) → ends_before p (number_tokens true b t rest) ≡ true
unfolding number_tokens
number_ends p true t rest = refl
number_ends p false t rest = refl

-- a value behind a blank
pub spaced_ends : (p : Piece) (k : Kind) (v : Value) (rest : List Written) → ends_before p (written true k v rest) ≡ true
spaced_ends p k value.Unknown rest = refl
spaced_ends p k value.Uncertain rest = refl
spaced_ends p k (value.Bool b) rest = refl
spaced_ends p k (value.Num n) rest = number_ends p (is_negative n) (digits_text (shown k (unsigned_abs n)) (unsigned_abs n)) rest
spaced_ends p k (value.Words t) rest = refl
spaced_ends p k (value.Day d) rest = refl

-- a semicolon and a comma begin apart
pub semicolon_apart : (ws : List Written) → Apart (joined (symbol (codes ";")) ∷ ws)
semicolon_apart ws = ap begins_apart (ascii_chars (codes ";") refl)

pub comma_apart : (ws : List Written) → Apart (joined (symbol (codes ",")) ∷ ws)
comma_apart ws = ap begins_apart (ascii_chars (codes ",") refl)
