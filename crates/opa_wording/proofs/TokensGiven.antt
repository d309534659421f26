-- What the tokens of a text are: digits, texts between quotes and signs.
use Rattle.std.proofs.Common.{◌≡◌, ◌<◌, ◌≤◌, ℕ, ℤ, pos, neg_ℤ, List, [], ◌∷◌, ◌++◌, length, Bool, true, false, cond, Option, Some, None, Result, Ok, Err, All, refl, sym, ap, subst, ◌∙◌, arith}
use Rattle.std.specs.Prelude.{◌==◌, codes, nat_le, if◌then◌else◌, unsigned_abs}
use Rattle.std.specs.List.{list_any}
use Rattle.std.specs.Option.{option_and_then}
use Rattle.std.specs.Str.{chars, IsUtf8, bytes_eq}
use lib.Utf8.{scalar, scalars, encodes}
use Rattle.std.proofs.lemmas.List.Elements.{All-head, All-tail}
use Rattle.std.proofs.lemmas.Str.{encodes-chars, chars-encodes, scalars-chars, IsUtf8-between}
use Rattle.std.proofs.lemmas.Bool.{and_from}
use Rattle.opa_io.proofs.Characters.{quote_is}
use Rattle.opa_io.proofs.Bools.{and_first, and_second}
use Rattle.opa_value.specs.declared.number.NumFault.{NumFault}
use Rattle.opa_value.specs.Numbers.{most, InRange, in_range, kept}
use Rattle.opa_value.specs.NumberText.{read_number, Reads, Spells as SpellsNumber, sign_text, signed, size_of, behind_text}
use Rattle.opa_value.proofs.Spelling.{reads_number}
use Rattle.opa_date.specs.declared.TheConstants.{DAYS}
use Rattle.opa_date.specs.declared.fault.DayFault.{DayFault}
use Rattle.opa_date.specs.Texts.{read_day}
use Rattle.opa_date.proofs.ReadTexts.{only_texts_are_read}
use Rattle.opa_text.specs.Laws.{CanBeQuoted}
use Rattle.opa_tree.specs.declared.kinds.OpKind.TheVariants as op
use Rattle.opa_tree.specs.Trees.{op_arity}
use Rattle.opa_words.specs.declared.kinds.Token.{Token}
use Rattle.opa_words.specs.declared.kinds.TokenKind.{TokenKind}
use Rattle.opa_words.specs.declared.kinds.TokenKind.TheVariants as kind
use Rattle.opa_words.specs.Characters.{is_control}
use Rattle.opa_words.specs.Cuts.{Cuts}
use Rattle.opa_words.specs.Kinds.{doubled, IsToken}
use Rattle.opa_words.specs.Places.{IsWithin, IsOfKind, token_text}
use Rattle.opa_words.proofs.PlaceLaws.{tokens_within, tokens_of_kind}
use Rattle.opa_sentence.specs.declared.class.Class.{Class}
use Rattle.opa_sentence.specs.declared.class.Class.TheVariants as class
use Rattle.opa_sentence.specs.declared.functions.Function.{Function}
use Rattle.opa_sentence.specs.Functions.{function_named}
use Rattle.opa_sentence.specs.Lexemes.{Lexeme, lexemes, class_of, word_class, symbol_class, function_class}
use Rattle.opa_sentence.specs.Literals.{number_in, number_or_none, negative_in, day_in, day_or_none}
use Rattle.opa_words.specs.Quoted.{unquoted}
use Rattle.opa_words.proofs.QuotedLaws.{reads_quoted_holds}
use Rattle.opa_words.proofs.Quoting.{encodes_quoted}
use Rattle.opa_wording.specs.Grammatical.{is_round}
use Rattle.opa_wording.specs.Told.{is_sign}
use Rattle.opa_wording.proofs.PhrasePieces.{of_number}

-- ---- texts between quotes

-- characters that have a code inside quotes
scalars_inside : (cs : List ℕ) → scalars (doubled cs ++ 34 ∷ []) ≡ true → scalars cs ≡ true
scalars_inside [] h = refl
scalars_inside (c ∷ cs) h = go (c == 34) refl h (scalars_inside cs)
  where
    go : (t : Bool) → (c == 34) ≡ t → scalars (cond t (34 ∷ 34 ∷ doubled cs) (c ∷ doubled cs) ++ 34 ∷ []) ≡ true → (scalars (doubled cs ++ 34 ∷ []) ≡ true → scalars cs ≡ true) → scalars (c ∷ cs) ≡ true
    go true e k r = and_from (scalar c) (scalars cs) (subst (λ x. scalar x ≡ true) (sym (quote_is c e)) refl) (r k)
    go false e k r = and_from (scalar c) (scalars cs) (and_first (scalar c) (scalars (doubled cs ++ 34 ∷ [])) k) (r (and_second (scalar c) (scalars (doubled cs ++ 34 ∷ [])) k))

text_quoted : (t : List ℕ) → IsUtf8 t → IsToken kind.Text (chars t) → CanBeQuoted (unquoted t)
text_quoted t u h =
    let inner : List ℕ = h.0 in
    let coded : scalars inner ≡ true = scalars_inside inner (subst (λ cs. scalars cs ≡ true) h.2 (scalars-chars t u)) in
    let is : unquoted t ≡ encodes inner = ap unquoted (sym (encodes-chars t u) ∙ ap encodes h.2 ∙ encodes_quoted inner) ∙ reads_quoted_holds (encodes inner) in
    subst CanBeQuoted (sym is) (record { utf8 = (inner, (coded, refl)); plain = subst (λ cs. list_any is_control cs ≡ false) (sym (chars-encodes inner coded)) h.1 })

-- ---- numbers and days

ok_count : (text : List ℕ) (n : ℤ) → number_in text ≡ Some n → read_number text ≡ Ok n
ok_count text n e = go (read_number text) refl e
  where
    go : (r : Result ℤ NumFault) → read_number text ≡ r → number_or_none r ≡ Some n → read_number text ≡ Ok n
    go (Ok k) h e = h ∙ ap (λ x. Ok x) (let s : k ≡ n = cc e in s)
    go (Err f) h e = absurd (cc e)

pub number_range : (text : List ℕ) (n : ℤ) → number_in text ≡ Some n → InRange n
number_range text n e = (subst (Reads text) (ok_count text n e) (reads_number text)).1

-- a number without a sign
pub record IsCount (z : ℤ) : Type 0 where
  pub count : ℕ
  pub is : z ≡ pos count

unsigned_spelled : (text : List ℕ) (n : ℤ) → is_sign text ≡ false → SpellsNumber text n → IsCount n
unsigned_spelled text n u s = go s.negative refl
  where
    go : (b : Bool) → s.negative ≡ b → IsCount n
    go false e = record { count = size_of s.whole s.behind; is = s.counted ∙ ap (λ b. signed b (size_of s.whole s.behind)) e }
    go true e =
        let minus : text ≡ 45 ∷ (s.whole ++ behind_text s.behind) = s.written ∙ ap (λ b. sign_text b ++ (s.whole ++ behind_text s.behind)) e in
        absurd (let k : true ≡ false = sym (ap is_sign minus) ∙ u in cc k)

pub unsigned_count : (text : List ℕ) (n : ℤ) → is_sign text ≡ false → number_in text ≡ Some n → IsCount n
unsigned_count text n u e = unsigned_spelled text n u (subst (Reads text) (ok_count text n e) (reads_number text)).0

is_under : (a b : ℕ) → nat_le a b ≡ true → a ≤ b
is_under a b h = grind (arith, h)

kept_range : (z n : ℤ) → kept z ≡ Some n → InRange n
kept_range z n e = go (in_range z) refl e
  where
    go : (b : Bool) → in_range z ≡ b → (if b then Some z else None) ≡ Some n → InRange n
    go true h e = let same : z ≡ n = cc e in subst InRange same (is_under (unsigned_abs z) most h)
    go false h e = absurd (cc e)

pub negative_range : (text : List ℕ) (n : ℤ) → negative_in text ≡ Some n → InRange n
negative_range text n e = go (number_in text) e
  where
    go : (o : Option ℤ) → option_and_then (λ k. kept (neg_ℤ k)) o ≡ Some n → InRange n
    go None e = absurd (cc e)
    go (Some k) e = kept_range (neg_ℤ k) n e

pub day_range : (text : List ℕ) (d : ℕ) → day_in text ≡ Some d → d < DAYS
day_range text d e = go (read_day text) refl e
  where
    go : (r : Result ℕ DayFault) → read_day text ≡ r → day_or_none r ≡ Some d → d < DAYS
    go (Ok k) h e = let same : k ≡ d = cc e in let l = (only_texts_are_read text k h).0 in omega (arith, l, same)
    go (Err f) h e = absurd (cc e)

-- ---- tokens

-- What a token is by its class: a comparison has two operands, a number no sign, and a text can be quoted.
abbrev pub IsSuch : Class → List ℕ → Type 0
IsSuch (class.Compare k) t = (op_arity k ≡ 2) × (is_round k ≡ false)
IsSuch class.Number t = is_sign t ≡ false
IsSuch class.Text t = CanBeQuoted (unquoted t)
IsSuch c t = Unit {0}

abbrev pub AreSuch : List Lexeme → Type 0
AreSuch [] = Unit {0}
AreSuch (t ∷ ts) = IsSuch t.class t.text × AreSuch ts

either_such : (k : Bool) (c d : Class) (t : List ℕ) → IsSuch c t → IsSuch d t → IsSuch (if k then c else d) t
either_such true c d t p q = p
either_such false c d t p q = q

function_such : (o : Option Function) (t : List ℕ) → IsSuch (function_class o) t
function_such None t = tt
function_such (Some f) t = tt

word_such : (w : List ℕ) → IsSuch (word_class w) w
word_such w =
    either_such (bytes_eq w (codes "not")) class.Not _ w tt
    (either_such (bytes_eq w (codes "and")) class.And _ w tt
    (either_such (bytes_eq w (codes "or")) class.Or _ w tt
    (either_such (bytes_eq w (codes "true")) class.True _ w tt
    (either_such (bytes_eq w (codes "false")) class.False _ w tt
    (either_such (bytes_eq w (codes "uncertain")) class.Uncertain _ w tt (function_such (function_named w) w))))))

symbol_such : (w : List ℕ) → IsSuch (symbol_class w) w
symbol_such w =
    either_such (bytes_eq w (codes "(")) class.Open _ w tt
    (either_such (bytes_eq w (codes ")")) class.Close _ w tt
    (either_such (bytes_eq w (codes ",")) class.Comma _ w tt
    (either_such (bytes_eq w (codes "+")) class.Plus _ w tt
    (either_such (bytes_eq w (codes "-")) class.Minus _ w tt
    (either_such (bytes_eq w (codes "*")) class.Times _ w tt
    (either_such (bytes_eq w (codes "/")) class.Slash _ w tt
    (either_such (bytes_eq w (codes "=")) (class.Compare op.Eq) _ w (refl, refl)
    (either_such (bytes_eq w (codes "<>")) (class.Compare op.Ne) _ w (refl, refl)
    (either_such (bytes_eq w (codes "<")) (class.Compare op.Lt) _ w (refl, refl)
    (either_such (bytes_eq w (codes "<=")) (class.Compare op.Le) _ w (refl, refl)
    (either_such (bytes_eq w (codes ">")) (class.Compare op.Gt) _ w (refl, refl)
    (either_such (bytes_eq w (codes ">=")) (class.Compare op.Ge) class.Other w (refl, refl) tt))))))))))))

kind_such : (k : TokenKind) (t : List ℕ) → IsUtf8 t → IsToken k (chars t) → IsSuch (class_of k t) t
kind_such kind.Word t u h = word_such t
kind_such kind.Number t u h = (of_number t (record { utf8 = u; token = h }) (chars t) refl h).unsigned
kind_such kind.Date t u h = tt
kind_such kind.Text t u h = text_quoted t u h
kind_such kind.Symbol t u h = symbol_such t

tokens_such : (bytes : List ℕ) (ts : List Token) → IsUtf8 bytes → All (IsWithin bytes) ts → All (IsOfKind bytes) ts → AreSuch (lexemes bytes ts)
tokens_such bytes [] u w k = tt
tokens_such bytes (t ∷ ts) u w k =
    let in_it = All-head (IsWithin bytes) t ts w in
    (kind_such t.kind (token_text bytes t) (IsUtf8-between bytes t.start t.end u in_it.order in_it.from in_it.to) (All-head (IsOfKind bytes) t ts k), tokens_such bytes ts u (All-tail (IsWithin bytes) t ts w) (All-tail (IsOfKind bytes) t ts k))

pub cut_such : (bytes : List ℕ) (ts : List Token) → IsUtf8 bytes → Cuts (length bytes) (chars bytes) ts → AreSuch (lexemes bytes ts)
cut_such bytes ts u d = tokens_such bytes ts u (tokens_within bytes ts u d) (tokens_of_kind bytes ts u d)
