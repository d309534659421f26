-- No quote, comma, colon or line feed stands in a phrase.
use Rattle.std.proofs.Common.{◌≡◌, ◌≤◌, ◌/◌, ◌+◌, ℕ, List, [], ◌∷◌, map, Bool, true, false, cond, not, ◌&&◌, ◌||◌, ◌==◌, All, refl, sym, ap, ◌∙◌, arith}
use Rattle.std.specs.List.{list_all, list_any}
use Rattle.std.specs.Str.{chars, IsUtf8}
use lib.Utf8.{encode, encodes, next}
use lib.Dec.{ltb}
use Rattle.std.proofs.lemmas.Bool.{and_parts, and_from, or_parts, not-true}
use Rattle.std.proofs.lemmas.List.Elements.{All-head, All-tail}
use Rattle.std.proofs.lemmas.Str.{encodes-chars, IsUtf8-between}
use Rattle.ucd_derived.proofs.Computing.{ucd_derived}
use Rattle.ucd_category.proofs.Computing.{ucd_category}
use Rattle.opa_words.specs.declared.kinds.Token.{Token}
use Rattle.opa_words.specs.declared.kinds.TokenKind.{TokenKind}
use Rattle.opa_words.specs.declared.kinds.TokenKind.TheVariants as kind
use Rattle.opa_words.specs.Characters.{begins_word, continues_word}
use Rattle.opa_words.specs.Kinds.{IsToken, is_word, IsNumber}
use Rattle.opa_words.specs.Places.{IsWithin, IsOfKind, token_text}
use Rattle.opa_words.specs.Reserved.{joined, begins_well, ends_badly, is_phrase_kind}
use Rattle.opa_words.proofs.PlaceLaws.{tokens_within, tokens_of_kind}
use Rattle.opa_words.proofs.Separate.{all_wider, all_append, numeric, number_numeric}
use Rattle.opa_words.proofs.Letters.{none_of}
use Rattle.opa_verbs.specs.Phrasing.{IsPhrase}
use Rattle.opa_verify.specs.Spelling.Spelling.{is_sign, CanBePhrase}

-- no line feed, quote, comma or colon
abbrev pub unmarked : ℕ → Bool
unmarked b = not ((b == 10) || is_sign b)

is_listed : (c : ℕ) → ((c == 10) || is_sign c) ≡ true → list_any (λ d. c == d) (10 ∷ 34 ∷ 44 ∷ 58 ∷ []) ≡ true
is_listed c h = grind (arith, h)

none_marked : (p : ℕ → Bool) → list_all (λ d. not (p d)) (10 ∷ 34 ∷ 44 ∷ 58 ∷ []) ≡ true → (c : ℕ) → p c ≡ true → unmarked c ≡ true
none_marked p a c h = go ((c == 10) || is_sign c) refl
  where
    go : (b : Bool) → ((c == 10) || is_sign c) ≡ b → not b ≡ true
    go true e = absurd (none_of p c (10 ∷ 34 ∷ 44 ∷ 58 ∷ []) a (is_listed c e) h)
    go false e = refl

letters_unmarked : list_all (λ d. not (continues_word d)) (10 ∷ 34 ∷ 44 ∷ 58 ∷ []) ≡ true
unfolding ucd_derived ucd_category
letters_unmarked = refl

first_unmarked : list_all (λ d. not (begins_word d)) (10 ∷ 34 ∷ 44 ∷ 58 ∷ []) ≡ true
unfolding ucd_derived
first_unmarked = refl

word_unmarked : (cs : List ℕ) → is_word cs ≡ true → list_all unmarked cs ≡ true
word_unmarked [] h = refl
word_unmarked (c ∷ cs) h =
    let both = and_parts (begins_word c) (list_all continues_word cs) h in
    and_from (unmarked c) (list_all unmarked cs) (none_marked begins_word first_unmarked c both.0) (all_wider continues_word unmarked cs (none_marked continues_word letters_unmarked) both.1)

number_unmarked : (cs : List ℕ) → IsNumber cs → list_all unmarked cs ≡ true
number_unmarked cs h = all_wider numeric unmarked cs (none_marked numeric refl) (number_numeric cs h)

-- ---- their bytes

not_low : (b : ℕ) → 59 ≤ b → unmarked b ≡ true
not_low b h = grind (arith, h)

next_high : (n : ℕ) → unmarked (next n) ≡ true
next_high n = not_low (next n) (omega arith)

encode_unmarked : (c : ℕ) → unmarked c ≡ true → list_all unmarked (encode c) ≡ true
unfolding encode
encode_unmarked c h = go (ltb c 128) (ltb c 2048) (ltb c 65536)
  where
    one : (b : ℕ) (bs : List ℕ) → unmarked b ≡ true → list_all unmarked bs ≡ true → list_all unmarked (b ∷ bs) ≡ true
    one b bs h k = and_from (unmarked b) (list_all unmarked bs) h k

    go : (x y z : Bool) → list_all unmarked (cond x (c ∷ []) (cond y ((192 + c / 64) ∷ next c ∷ []) (cond z ((224 + c / 4096) ∷ next (c / 64) ∷ next c ∷ []) ((240 + c / 262144) ∷ next (c / 4096) ∷ next (c / 64) ∷ next c ∷ [])))) ≡ true
    go true y z = one c [] h refl
    go false true z = one (192 + c / 64) (next c ∷ []) (not_low (192 + c / 64) (omega arith)) (one (next c) [] (next_high c) refl)
    go false false true =
        one (224 + c / 4096) (next (c / 64) ∷ next c ∷ []) (not_low (224 + c / 4096) (omega arith)) (one (next (c / 64)) (next c ∷ []) (next_high (c / 64)) (one (next c) [] (next_high c) refl))
    go false false false =
        one (240 + c / 262144) (next (c / 4096) ∷ next (c / 64) ∷ next c ∷ []) (not_low (240 + c / 262144) (omega arith))
        (one (next (c / 4096)) (next (c / 64) ∷ next c ∷ []) (next_high (c / 4096)) (one (next (c / 64)) (next c ∷ []) (next_high (c / 64)) (one (next c) [] (next_high c) refl)))

encodes_unmarked : (cs : List ℕ) → list_all unmarked cs ≡ true → list_all unmarked (encodes cs) ≡ true
encodes_unmarked [] h = refl
encodes_unmarked (c ∷ cs) h =
    let both = and_parts (unmarked c) (list_all unmarked cs) h in all_append unmarked (encode c) (encodes cs) (encode_unmarked c both.0) (encodes_unmarked cs both.1)

-- ---- their tokens

kind_unmarked : (k : TokenKind) (cs : List ℕ) → is_phrase_kind k ≡ true → IsToken k cs → list_all unmarked cs ≡ true
kind_unmarked kind.Word cs p h = word_unmarked cs h
kind_unmarked kind.Number cs p h = number_unmarked cs h
kind_unmarked kind.Date cs p h = absurd (cc p)
kind_unmarked kind.Text cs p h = absurd (cc p)
kind_unmarked kind.Symbol cs p h = absurd (cc p)

token_unmarked : (bytes : List ℕ) (t : Token) → IsUtf8 bytes → IsWithin bytes t → IsOfKind bytes t → is_phrase_kind t.kind ≡ true → list_all unmarked (token_text bytes t) ≡ true
token_unmarked bytes t u w k p =
    let is : IsUtf8 (token_text bytes t) = IsUtf8-between bytes t.start t.end u w.order w.from w.to in
    ap (list_all unmarked) (sym (encodes-chars (token_text bytes t) is)) ∙ encodes_unmarked (chars (token_text bytes t)) (kind_unmarked t.kind (chars (token_text bytes t)) p k)

joined_unmarked : (bytes : List ℕ) (ts : List Token) → IsUtf8 bytes → All (IsWithin bytes) ts → All (IsOfKind bytes) ts → list_all (λ t. is_phrase_kind t.kind) ts ≡ true → list_all unmarked (joined (map (token_text bytes) ts)) ≡ true
joined_unmarked bytes [] u w k p = refl
joined_unmarked bytes (t ∷ []) u w k p =
    token_unmarked bytes t u (All-head (IsWithin bytes) t [] w) (All-head (IsOfKind bytes) t [] k) (and_parts (is_phrase_kind t.kind) true p).0
joined_unmarked bytes (t ∷ s ∷ ts) u w k p =
    let both = and_parts (is_phrase_kind t.kind) (list_all (λ (x : Token). is_phrase_kind x.kind) (s ∷ ts)) p in
    all_append unmarked (token_text bytes t) (32 ∷ joined (map (token_text bytes) (s ∷ ts))) (token_unmarked bytes t u (All-head (IsWithin bytes) t (s ∷ ts) w) (All-head (IsOfKind bytes) t (s ∷ ts) k) both.0)
    (joined_unmarked bytes (s ∷ ts) u (All-tail (IsWithin bytes) t (s ∷ ts) w) (All-tail (IsOfKind bytes) t (s ∷ ts) k) both.1)

pub phrase_unmarked : (t : List ℕ) → IsUtf8 t → IsPhrase t → list_all unmarked t ≡ true
phrase_unmarked t u is =
    let parts = and_parts (begins_well t is.tokens && list_all (λ (x : Token). is_phrase_kind x.kind) is.tokens) (not (ends_badly t is.tokens)) is.phrase in
    let words = (and_parts (begins_well t is.tokens) (list_all (λ (x : Token). is_phrase_kind x.kind) is.tokens) parts.0).1 in
    ap (list_all unmarked) (sym is.spaced) ∙ joined_unmarked t is.tokens u (tokens_within t is.tokens u is.cut) (tokens_of_kind t is.tokens u is.cut) words

unmarked_plain : (b : ℕ) → unmarked b ≡ true → not (is_sign b) ≡ true
unmarked_plain b h = ap not (or_parts (b == 10) (is_sign b) (not-true ((b == 10) || is_sign b) h)).1

-- so each phrase in UTF-8 can be printed
pub can_be_phrase : (t : List ℕ) → IsUtf8 t → IsPhrase t → CanBePhrase t
can_be_phrase t u is = record { utf8 = u; phrase = is; plain = all_wider unmarked (λ b. not (is_sign b)) t unmarked_plain (phrase_unmarked t u is) }
