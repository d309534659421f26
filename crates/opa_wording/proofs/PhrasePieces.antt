-- A phrase is written as the Words and Numbers that it is cut into.
use Rattle.std.proofs.Common.{◌≡◌, ◌≤◌, ◌<◌, ℕ, List, [], ◌∷◌, ◌++◌, Bool, true, false, cond, All, refl, sym, ap, ap₂, subst, ◌∙◌, arith, append_assoc, append-nil, inl, inr}
use Rattle.std.specs.Prelude.{codes, not, ◌==◌, ◌||◌, ◌&&◌, ◌/◌, ◌+◌}
use Rattle.std.specs.List.{list_all, list_any}
use Rattle.std.specs.Char.{is_ascii_digit}
use Rattle.std.specs.Str.{chars, IsUtf8}
use lib.Utf8.{encode, encodes, next}
use lib.Dec.{ltb}
use Rattle.std.proofs.lemmas.Bool.{and_parts, and_from, not-true}
use Rattle.std.proofs.lemmas.List.Elements.{All-head, All-tail}
use Rattle.std.proofs.lemmas.Str.{encode_ascii, encodes-chars, IsUtf8-between}
use Rattle.ucd_derived.proofs.Computing.{ucd_derived}
use Rattle.ucd_category.proofs.Computing.{ucd_category}
use Rattle.opa_io.proofs.Bools.{and_first, and_second}
use Rattle.opa_words.specs.declared.kinds.Token.{Token}
use Rattle.opa_words.specs.declared.kinds.TokenKind.{TokenKind}
use Rattle.opa_words.specs.declared.kinds.TokenKind.TheVariants as kind
use Rattle.opa_words.specs.Characters.{begins_word, continues_word, is_digit}
use Rattle.opa_words.specs.Kinds.{is_word, IsNumber}
use Rattle.opa_words.specs.Places.{IsWithin, IsOfKind, token_text}
use Rattle.opa_words.specs.Reserved.{phrase_text, begins_well, ends_badly, is_phrase_kind, is_word_kind, is_reserved}
use Rattle.opa_words.proofs.PlaceLaws.{tokens_within, tokens_of_kind}
use Rattle.opa_words.specs.Pieces.{Piece, IsPiece, word, number, piece, pieces}
use Rattle.opa_words.specs.Written.{Written, AreWritten, ends_before}
use Rattle.opa_words.proofs.Separate.{all_append, numeric, number_numeric, all_wider}
use Rattle.opa_words.proofs.Letters.{none_of}
use Rattle.opa_verbs.specs.Phrasing.{IsPhrase}
use Rattle.opa_wording.specs.Told.{is_sign}
use Rattle.opa_wording.specs.Wordings.{token, phrase, phrase_word, words_from}

-- ---- texts without a space

abbrev pub not_space : ℕ → Bool
not_space b = not (b == 32)

pub skip : (s : Bool) (w bs more : List ℕ) → list_all not_space bs ≡ true → words_from s w (bs ++ more) ≡ words_from s (w ++ bs) more
skip s w [] more h = ap (λ x. words_from s x more) (sym (append-nil w))
skip s w (b ∷ bs) more h =
    ap (λ c. cond c (token s (phrase_word w) ∷ words_from true [] (bs ++ more)) (words_from s (w ++ b ∷ []) (bs ++ more))) (not-true (b == 32) (and_first (not_space b) (list_all not_space bs) h))
    ∙ skip s (w ++ b ∷ []) bs more (and_second (not_space b) (list_all not_space bs) h) ∙ ap (λ x. words_from s x more) (append_assoc w (b ∷ []) bs)

-- a Word or a Number, as it stands in a phrase
pub record IsWordPiece (p : Piece) : Type 0 where
  pub is : IsPiece p
  pub unspaced : list_all not_space p.text ≡ true
  pub as_word : phrase_word p.text ≡ p
  pub unsigned : is_sign p.text ≡ false

abbrev pub AreWordPieces : List Piece → Type 0
AreWordPieces [] = Unit {0}
AreWordPieces (p ∷ ps) = IsWordPiece p × AreWordPieces ps

-- pieces after a space, and their text
abbrev pub behind : List Piece → List Written
behind [] = []
behind (p ∷ ps) = token true p ∷ behind ps

abbrev pub led : List Piece → List ℕ
led [] = []
led (p ∷ ps) = 32 ∷ (p.text ++ led ps)

pub split : (s : Bool) (p : Piece) (ps : List Piece) → IsWordPiece p → AreWordPieces ps → words_from s [] (p.text ++ led ps) ≡ token s p ∷ behind ps
split s p [] h hs = skip s [] p.text [] h.unspaced ∙ ap (λ q. token s q ∷ []) h.as_word
split s p (q ∷ ps) h hs = skip s [] p.text (32 ∷ (q.text ++ led ps)) h.unspaced ∙ ap₂ (λ r ws. token s r ∷ ws) h.as_word (split true q ps hs.0 hs.1)

-- ---- the characters of words

space_not : (p : ℕ → Bool) → list_all (λ d. not (p d)) (32 ∷ []) ≡ true → (c : ℕ) → p c ≡ true → not_space c ≡ true
space_not p a c h = go (c == 32) refl
  where
    go : (b : Bool) → (c == 32) ≡ b → not b ≡ true
    go true e = absurd (none_of p c (32 ∷ []) a (ap (λ t. t || false) e) h)
    go false e = refl

letters_space : list_all (λ d. not (continues_word d)) (32 ∷ []) ≡ true
unfolding ucd_derived ucd_category
letters_space = refl

first_letters_space : list_all (λ d. not (begins_word d)) (32 ∷ []) ≡ true
unfolding ucd_derived
first_letters_space = refl

word_unspaced : (cs : List ℕ) → is_word cs ≡ true → list_all not_space cs ≡ true
word_unspaced [] h = refl
word_unspaced (c ∷ cs) h =
    and_from (not_space c) (list_all not_space cs) (space_not begins_word first_letters_space c (and_first (begins_word c) (list_all continues_word cs) h))
    (all_wider continues_word not_space cs (space_not continues_word letters_space) (and_second (begins_word c) (list_all continues_word cs) h))

number_unspaced : (cs : List ℕ) → IsNumber cs → list_all not_space cs ≡ true
number_unspaced cs h = all_wider numeric not_space cs (space_not numeric refl) (number_numeric cs h)

-- ---- and their bytes

not_low : (b : ℕ) → 33 ≤ b → not_space b ≡ true
not_low b h = grind (arith, h)

next_high : (n : ℕ) → not_space (next n) ≡ true
next_high n = not_low (next n) (omega arith)

encode_unspaced : (c : ℕ) → not_space c ≡ true → list_all not_space (encode c) ≡ true
unfolding encode
encode_unspaced c h = go (ltb c 128) (ltb c 2048) (ltb c 65536)
  where
    go : (x y z : Bool) → list_all not_space (cond x (c ∷ []) (cond y ((192 + c / 64) ∷ next c ∷ []) (cond z ((224 + c / 4096) ∷ next (c / 64) ∷ next c ∷ []) ((240 + c / 262144) ∷ next (c / 4096) ∷ next (c / 64) ∷ next c ∷ [])))) ≡ true
    go true y z = and_from (not_space c) true h refl
    go false true z = and_from (not_space (192 + c / 64)) (not_space (next c) && true) (not_low (192 + c / 64) (omega arith)) (and_from (not_space (next c)) true (next_high c) refl)
    go false false true = and_from (not_space (224 + c / 4096)) (not_space (next (c / 64)) && (not_space (next c) && true)) (not_low (224 + c / 4096) (omega arith)) (and_from (not_space (next (c / 64))) (not_space (next c) && true) (next_high (c / 64)) (and_from (not_space (next c)) true (next_high c) refl))
    go false false false = and_from (not_space (240 + c / 262144)) (not_space (next (c / 4096)) && (not_space (next (c / 64)) && (not_space (next c) && true))) (not_low (240 + c / 262144) (omega arith))
        (and_from (not_space (next (c / 4096))) (not_space (next (c / 64)) && (not_space (next c) && true)) (next_high (c / 4096)) (and_from (not_space (next (c / 64))) (not_space (next c) && true) (next_high (c / 64)) (and_from (not_space (next c)) true (next_high c) refl)))

encodes_unspaced : (cs : List ℕ) → list_all not_space cs ≡ true → list_all not_space (encodes cs) ≡ true
encodes_unspaced [] h = refl
encodes_unspaced (c ∷ cs) h = all_append not_space (encode c) (encodes cs) (encode_unspaced c (and_first (not_space c) (list_all not_space cs) h)) (encodes_unspaced cs (and_second (not_space c) (list_all not_space cs) h))

-- ---- how they begin

digit_high : (b : ℕ) → 192 ≤ b → is_ascii_digit b ≡ false
digit_high b h = grind (arith, h)

sign_high : (b : ℕ) → 192 ≤ b → list_any (λ d. b == d) (codes "),+-*/=<>") ≡ false
sign_high b h = grind (arith, h)

letters_digits : list_all (λ d. not (begins_word d)) (codes "0123456789") ≡ true
unfolding ucd_derived
letters_digits = refl

letters_signs : list_all (λ d. not (begins_word d)) (codes "),+-*/=<>") ≡ true
unfolding ucd_derived
letters_signs = refl

digit_listed : (c : ℕ) → is_ascii_digit c ≡ true → list_any (λ d. c == d) (codes "0123456789") ≡ true
digit_listed c h = grind (arith, h)

not_digit : (c : ℕ) → begins_word c ≡ true → is_ascii_digit c ≡ false
not_digit c h = go (is_ascii_digit c) refl
  where
    go : (b : Bool) → is_ascii_digit c ≡ b → b ≡ false
    go true e = absurd (none_of begins_word c (codes "0123456789") letters_digits (digit_listed c e) h)
    go false e = refl

not_sign : (p : ℕ → Bool) → list_all (λ d. not (p d)) (codes "),+-*/=<>") ≡ true → (c : ℕ) → p c ≡ true → list_any (λ d. c == d) (codes "),+-*/=<>") ≡ false
not_sign p a c h = go (list_any (λ d. c == d) (codes "),+-*/=<>")) refl
  where
    go : (b : Bool) → list_any (λ d. c == d) (codes "),+-*/=<>") ≡ b → b ≡ false
    go true e = absurd (none_of p c (codes "),+-*/=<>") a e h)
    go false e = refl

taken : (b : ℕ) (more : List ℕ) → is_ascii_digit b ≡ false → phrase_word (b ∷ more) ≡ word (b ∷ more)
taken b more e = ap (λ d. cond d (number (b ∷ more)) (word (b ∷ more))) e

abbrev BeginsAs : (List ℕ → Piece) → List ℕ → Type 0
BeginsAs f bs = (phrase_word bs ≡ f bs) × (is_sign bs ≡ false)

high_begins : (b : ℕ) (bs : List ℕ) → 192 ≤ b → BeginsAs word (b ∷ bs)
high_begins b bs h = (taken b bs (digit_high b h), sign_high b h)

word_begins : (c : ℕ) (more : List ℕ) → begins_word c ≡ true → BeginsAs word (encode c ++ more)
unfolding encode
word_begins c more h = go (ltb c 128) (ltb c 2048) (ltb c 65536)
  where
    go : (x y z : Bool) → BeginsAs word (cond x (c ∷ []) (cond y ((192 + c / 64) ∷ next c ∷ []) (cond z ((224 + c / 4096) ∷ next (c / 64) ∷ next c ∷ []) ((240 + c / 262144) ∷ next (c / 4096) ∷ next (c / 64) ∷ next c ∷ []))) ++ more)
    go true y z = (taken c more (not_digit c h), not_sign begins_word letters_signs c h)
    go false true z = high_begins (192 + c / 64) (next c ∷ more) (omega arith)
    go false false true = high_begins (224 + c / 4096) (next (c / 64) ∷ next c ∷ more) (omega arith)
    go false false false = high_begins (240 + c / 262144) (next (c / 4096) ∷ next (c / 64) ∷ next c ∷ more) (omega arith)

digit_small : (c : ℕ) → is_digit c ≡ true → c < 128
digit_small c h = grind (arith, h)

number_begins : (c : ℕ) (more : List ℕ) → is_digit c ≡ true → BeginsAs number (encode c ++ more)
number_begins c more h =
    subst (λ bs. BeginsAs number (bs ++ more)) (sym (encode_ascii c (digit_small c h)))
    (ap (λ d. cond d (number (c ∷ more)) (word (c ∷ more))) h, not_sign is_digit refl c h)

-- ---- a Word or a Number is one as it stands in a phrase

made : (p : Piece) (cs : List ℕ) → IsPiece p → encodes cs ≡ p.text → list_all not_space cs ≡ true → (f : List ℕ → Piece) → f p.text ≡ p → BeginsAs f (encodes cs) → IsWordPiece p
made p cs is e u f same h = record {
  is = is;
  unspaced = subst (λ t. list_all not_space t ≡ true) e (encodes_unspaced cs u);
  as_word = subst (λ t. phrase_word t ≡ f t) e h.0 ∙ same;
  unsigned = subst (λ t. is_sign t ≡ false) e h.1;
}

of_word : (t : List ℕ) → IsPiece (word t) → (cs : List ℕ) → chars t ≡ cs → is_word cs ≡ true → IsWordPiece (word t)
of_word t is [] q h = absurd (cc h)
of_word t is (c ∷ cs) q h =
    made (word t) (c ∷ cs) is (sym (ap encodes q) ∙ encodes-chars t is.utf8) (word_unspaced (c ∷ cs) h) word refl (word_begins c (encodes cs) (and_first (begins_word c) (list_all continues_word cs) h))

first_digit : (c : ℕ) (cs : List ℕ) → IsNumber (c ∷ cs) → is_digit c ≡ true
first_digit c cs (inl h) = and_first (is_digit c) (list_all is_digit cs) h.0
first_digit c cs (inr ([], part, a, b, m, e)) = absurd (let n = a.1 in omega (arith, n))
first_digit c cs (inr (d ∷ whole, part, a, b, m, e)) = let same : c ≡ d = cc e in subst (λ x. is_digit x ≡ true) (sym same) (and_first (is_digit d) (list_all is_digit whole) a.0)

no_digits : IsNumber [] → ⊥
no_digits (inl h) = let n = h.1 in absurd (omega (arith, n))
no_digits (inr ([], part, a, b, m, e)) = absurd (cc e)
no_digits (inr (d ∷ whole, part, a, b, m, e)) = absurd (cc e)

pub of_number : (t : List ℕ) → IsPiece (number t) → (cs : List ℕ) → chars t ≡ cs → IsNumber cs → IsWordPiece (number t)
of_number t is [] q h = absurd (no_digits h)
of_number t is (c ∷ cs) q h =
    made (number t) (c ∷ cs) is (sym (ap encodes q) ∙ encodes-chars t is.utf8) (number_unspaced (c ∷ cs) h) number refl (number_begins c (encodes cs) (first_digit c cs h))

of_kind : (k : TokenKind) (t : List ℕ) → IsPiece (record { kind = k; text = t }) → is_phrase_kind k ≡ true → IsWordPiece (record { kind = k; text = t })
of_kind kind.Word t is h = of_word t is (chars t) refl is.token
of_kind kind.Number t is h = of_number t is (chars t) refl is.token
of_kind kind.Date t is h = absurd (cc h)
of_kind kind.Text t is h = absurd (cc h)
of_kind kind.Symbol t is h = absurd (cc h)

-- ---- phrases

pub of_tokens : (bytes : List ℕ) (ts : List Token) → IsUtf8 bytes → All (IsWithin bytes) ts → All (IsOfKind bytes) ts → list_all (λ t. is_phrase_kind t.kind) ts ≡ true → AreWordPieces (pieces bytes ts)
of_tokens bytes [] u w k h = tt
of_tokens bytes (t ∷ ts) u w k h =
    let p = and_parts (is_phrase_kind t.kind) (list_all (λ (x : Token). is_phrase_kind x.kind) ts) h in
    let in_it = All-head (IsWithin bytes) t ts w in (
      of_kind t.kind (token_text bytes t) (record { utf8 = IsUtf8-between bytes t.start t.end u in_it.order in_it.from in_it.to; token = All-head (IsOfKind bytes) t ts k }) p.0,
      of_tokens bytes ts u (All-tail (IsWithin bytes) t ts w) (All-tail (IsOfKind bytes) t ts k) p.1,
    )

pub text_led : (bytes : List ℕ) (t : Token) (ts : List Token) → phrase_text bytes (t ∷ ts) ≡ token_text bytes t ++ led (pieces bytes ts)
text_led bytes t [] = sym (append-nil (token_text bytes t))
text_led bytes t (u ∷ ts) = ap (λ r. token_text bytes t ++ 32 ∷ r) (text_led bytes u ts)

-- a phrase is a Word and what comes behind it
pub record IsLed (text : List ℕ) : Type 0 where
  pub first : Piece
  pub later : List Piece
  pub is_first : IsWordPiece first
  pub are_later : AreWordPieces later
  pub text_is : text ≡ first.text ++ led later
  pub is_word : is_word_kind first.kind ≡ true
  pub unreserved : is_reserved first.text ≡ false

led_phrase : (text : List ℕ) → IsUtf8 text → (ts : List Token) → All (IsWithin text) ts → All (IsOfKind text) ts → begins_well text ts ≡ true → list_all (λ t. is_phrase_kind t.kind) ts ≡ true → phrase_text text ts ≡ text → IsLed text
led_phrase text u [] w k b h e = absurd (cc b)
led_phrase text u (t ∷ ts) w k b h e =
    let all = of_tokens text (t ∷ ts) u w k h in
    let begins = and_parts (is_word_kind t.kind) (not (is_reserved (token_text text t))) b in record {
      first = piece text t;
      later = pieces text ts;
      is_first = all.0;
      are_later = all.1;
      text_is = sym e ∙ text_led text t ts;
      is_word = begins.0;
      unreserved = not-true (is_reserved (token_text text t)) begins.1;
    }

pub phrase_led : (text : List ℕ) → IsUtf8 text → IsPhrase text → IsLed text
phrase_led text u h =
    let most = and_parts (begins_well text h.tokens && list_all (λ (t : Token). is_phrase_kind t.kind) h.tokens) (not (ends_badly text h.tokens)) h.phrase in
    let parts = and_parts (begins_well text h.tokens) (list_all (λ (t : Token). is_phrase_kind t.kind) h.tokens) most.0 in
    led_phrase text u h.tokens (tokens_within text h.tokens u h.cut) (tokens_of_kind text h.tokens u h.cut) parts.0 parts.1 h.spaced

pub phrase_split : (text : List ℕ) (h : IsLed text) (s : Bool) → phrase s text ≡ token s h.first ∷ behind h.later
phrase_split text h s = ap (words_from s []) h.text_is ∙ split s h.first h.later h.is_first h.are_later

behind_written : (ps : List Piece) → AreWordPieces ps → AreWritten (behind ps)
behind_written [] h = tt
behind_written (p ∷ []) h = (h.0.is, refl, tt)
behind_written (p ∷ q ∷ ps) h = (h.0.is, refl, behind_written (q ∷ ps) h.1)

ends_first : (p : Piece) (ps : List Piece) → ends_before p (behind ps) ≡ true
ends_first p [] = refl
ends_first p (q ∷ ps) = refl

pub phrase_is_written : (text : List ℕ) → IsUtf8 text → IsPhrase text → AreWritten (phrase false text)
phrase_is_written text u h =
    let l = phrase_led text u h in
    subst AreWritten (sym (phrase_split text l false)) (l.is_first.is, ends_first l.first l.later, behind_written l.later l.are_later)
