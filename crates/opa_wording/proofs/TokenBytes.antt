-- The bytes of tokens: none ends a line, and the first is neither a blank nor the sign of a comment.
use Rattle.std.proofs.Common.{◌≡◌, ◌≤◌, ℕ, List, [], ◌∷◌, ◌++◌, Bool, true, false, cond, refl, sym, subst, arith, append_assoc}
use Rattle.std.specs.Prelude.{not, ◌==◌, ◌||◌, ◌&&◌, ◌/◌, ◌+◌}
use Rattle.std.specs.List.{list_all, list_any}
use Rattle.std.specs.Str.{chars}
use lib.Utf8.{encode, encodes, next}
use lib.Dec.{ltb}
use Rattle.std.proofs.lemmas.Str.{encodes-chars}
use Rattle.std.proofs.lemmas.Bool.{and_from}
use Rattle.ucd_derived.proofs.Computing.{ucd_derived}
use Rattle.ucd_category.proofs.Computing.{ucd_category}
use Rattle.opa_io.proofs.Bools.{and_first, and_second}
use Rattle.opa_words.specs.declared.kinds.TokenKind.{TokenKind}
use Rattle.opa_words.specs.declared.kinds.TokenKind.TheVariants as kind
use Rattle.opa_words.specs.Characters.{begins_word, continues_word, is_control}
use Rattle.opa_words.specs.Kinds.{IsToken, is_word, is_symbol, doubled}
use Rattle.opa_words.proofs.Letters.{starts, Starts, token_starts, date_parts, none_of}
use Rattle.opa_words.specs.Pieces.{Piece, IsPiece}
use Rattle.opa_words.specs.Written.{Written, AreWritten, text_of, gap}
use Rattle.opa_words.proofs.Separate.{all_wider, all_append, numeric, number_numeric, dated, date_dated}

-- it is none of these
abbrev pub avoids : List ℕ → ℕ → Bool
avoids ds c = not (list_any (λ d. c == d) ds)

pub avoiding : (ds : List ℕ) (p : ℕ → Bool) → list_all (λ d. not (p d)) ds ≡ true → (c : ℕ) → p c ≡ true → avoids ds c ≡ true
avoiding ds p a c h = go (list_any (λ d. c == d) ds) refl
  where
    go : (b : Bool) → list_any (λ d. c == d) ds ≡ b → not b ≡ true
    go true e = absurd (none_of p c ds a e h)
    go false e = refl

-- ---- what ends a line

abbrev pub breaks : List ℕ
breaks = 10 ∷ 13 ∷ []

abbrev pub unbroken : ℕ → Bool
unbroken b = avoids breaks b

letters_unbroken : list_all (λ d. not (continues_word d)) breaks ≡ true
unfolding ucd_derived ucd_category
letters_unbroken = refl

first_letters_unbroken : list_all (λ d. not (begins_word d)) breaks ≡ true
unfolding ucd_derived
first_letters_unbroken = refl

-- the second character of a symbol
abbrev pub compares : ℕ → Bool
compares c = (c == 61) || (c == 62)

pub second_compares : (c d : ℕ) → is_symbol (c ∷ d ∷ []) ≡ true → compares d ≡ true
second_compares c d h = grind (arith, h)

plain_unbroken : (c : ℕ) → is_control c ≡ false → unbroken c ≡ true
plain_unbroken c h = grind (arith, h)

no_control : (c : ℕ) (cs : List ℕ) → list_any is_control (c ∷ cs) ≡ false → (is_control c ≡ false) × (list_any is_control cs ≡ false)
no_control c cs h = go (is_control c) (list_any is_control cs) h
  where
    go : (a b : Bool) → (a || b) ≡ false → (a ≡ false) × (b ≡ false)
    go true b h = absurd (cc h)
    go false b h = (refl, h)

doubled_unbroken : (cs : List ℕ) → list_any is_control cs ≡ false → list_all unbroken (doubled cs) ≡ true
doubled_unbroken [] h = refl
doubled_unbroken (c ∷ cs) h = let n = no_control c cs h in go (c == 34) (plain_unbroken c n.0) (doubled_unbroken cs n.1)
  where
    go : (b : Bool) → unbroken c ≡ true → list_all unbroken (doubled cs) ≡ true → list_all unbroken (cond b (34 ∷ 34 ∷ doubled cs) (c ∷ doubled cs)) ≡ true
    go true u r = r
    go false u r = and_from (unbroken c) (list_all unbroken (doubled cs)) u r

word_unbroken : (cs : List ℕ) → is_word cs ≡ true → list_all unbroken cs ≡ true
word_unbroken [] h = refl
word_unbroken (c ∷ cs) h =
    and_from (unbroken c) (list_all unbroken cs) (avoiding breaks begins_word first_letters_unbroken c (and_first (begins_word c) (list_all continues_word cs) h))
    (all_wider continues_word unbroken cs (avoiding breaks continues_word letters_unbroken) (and_second (begins_word c) (list_all continues_word cs) h))

symbol_unbroken : (cs : List ℕ) → is_symbol cs ≡ true → list_all unbroken cs ≡ true
symbol_unbroken [] h = refl
symbol_unbroken (c ∷ []) h = and_from (unbroken c) true (avoiding breaks (starts kind.Symbol) refl c (token_starts kind.Symbol (c ∷ []) h)) refl
symbol_unbroken (c ∷ d ∷ []) h =
    and_from (unbroken c) (unbroken d && true) (avoiding breaks (starts kind.Symbol) refl c (token_starts kind.Symbol (c ∷ d ∷ []) h)) (and_from (unbroken d) true (avoiding breaks compares refl d (second_compares c d h)) refl)
symbol_unbroken (c ∷ d ∷ e ∷ cs) h = absurd (cc h)

token_unbroken : (k : TokenKind) (cs : List ℕ) → IsToken k cs → list_all unbroken cs ≡ true
token_unbroken kind.Word cs h = word_unbroken cs h
token_unbroken kind.Number cs h = all_wider numeric unbroken cs (avoiding breaks numeric refl) (number_numeric cs h)
token_unbroken kind.Date cs h = all_wider dated unbroken cs (avoiding breaks dated refl) (date_dated cs (date_parts cs h))
token_unbroken kind.Text cs h = subst (λ x. list_all unbroken x ≡ true) (sym h.2) (all_append unbroken (doubled h.0) (34 ∷ []) (doubled_unbroken h.0 h.1) refl)
token_unbroken kind.Symbol cs h = symbol_unbroken cs h

-- ---- the first character

-- blanks, and the sign of a comment
abbrev pub openings : List ℕ
openings = 32 ∷ 9 ∷ 35 ∷ []

starts_line : (k : TokenKind) → list_all (λ d. not (starts k d)) openings ≡ true
unfolding ucd_derived
starts_line kind.Word = refl
starts_line kind.Number = refl
starts_line kind.Date = refl
starts_line kind.Text = refl
starts_line kind.Symbol = refl

-- ---- bytes

-- the bytes of a character that passes, where all bytes above ASCII do
module _ (q : ℕ → Bool) (high : (b : ℕ) → 128 ≤ b → q b ≡ true) where
  -- the first byte of some, and that it passes
  pub record BeginsWell (bs : List ℕ) : Type 0 where
    pub first : ℕ
    pub later : List ℕ
    pub is : bs ≡ first ∷ later
    pub passes : q first ≡ true

  next_passes : (n : ℕ) → q (next n) ≡ true
  next_passes n = high (next n) (omega arith)

  encode_passes : (c : ℕ) → q c ≡ true → list_all q (encode c) ≡ true
  unfolding encode
  encode_passes c h = go (ltb c 128) (ltb c 2048) (ltb c 65536)
    where
      go : (x y z : Bool) → list_all q (cond x (c ∷ []) (cond y ((192 + c / 64) ∷ next c ∷ []) (cond z ((224 + c / 4096) ∷ next (c / 64) ∷ next c ∷ []) ((240 + c / 262144) ∷ next (c / 4096) ∷ next (c / 64) ∷ next c ∷ [])))) ≡ true
      go true y z = and_from (q c) true h refl
      go false true z = and_from (q (192 + c / 64)) (q (next c) && true) (high (192 + c / 64) (omega arith)) (and_from (q (next c)) true (next_passes c) refl)
      go false false true = and_from (q (224 + c / 4096)) (q (next (c / 64)) && (q (next c) && true)) (high (224 + c / 4096) (omega arith)) (and_from (q (next (c / 64))) (q (next c) && true) (next_passes (c / 64)) (and_from (q (next c)) true (next_passes c) refl))
      go false false false = and_from (q (240 + c / 262144)) (q (next (c / 4096)) && (q (next (c / 64)) && (q (next c) && true))) (high (240 + c / 262144) (omega arith))
          (and_from (q (next (c / 4096))) (q (next (c / 64)) && (q (next c) && true)) (next_passes (c / 4096)) (and_from (q (next (c / 64))) (q (next c) && true) (next_passes (c / 64)) (and_from (q (next c)) true (next_passes c) refl)))

  pub encodes_passes : (cs : List ℕ) → list_all q cs ≡ true → list_all q (encodes cs) ≡ true
  encodes_passes [] h = refl
  encodes_passes (c ∷ cs) h = all_append q (encode c) (encodes cs) (encode_passes c (and_first (q c) (list_all q cs) h)) (encodes_passes cs (and_second (q c) (list_all q cs) h))

  first_passes : (c : ℕ) (more : List ℕ) → q c ≡ true → BeginsWell (encode c ++ more)
  unfolding encode
  first_passes c more h = go (ltb c 128) (ltb c 2048) (ltb c 65536)
    where
      go : (x y z : Bool) → BeginsWell (cond x (c ∷ []) (cond y ((192 + c / 64) ∷ next c ∷ []) (cond z ((224 + c / 4096) ∷ next (c / 64) ∷ next c ∷ []) ((240 + c / 262144) ∷ next (c / 4096) ∷ next (c / 64) ∷ next c ∷ []))) ++ more)
      go true y z = record { first = c; later = more; is = refl; passes = h }
      go false true z = record { first = 192 + c / 64; later = next c ∷ more; is = refl; passes = high (192 + c / 64) (omega arith) }
      go false false true = record { first = 224 + c / 4096; later = next (c / 64) ∷ next c ∷ more; is = refl; passes = high (224 + c / 4096) (omega arith) }
      go false false false = record { first = 240 + c / 262144; later = next (c / 4096) ∷ next (c / 64) ∷ next c ∷ more; is = refl; passes = high (240 + c / 262144) (omega arith) }

pub unbroken_high : (b : ℕ) → 128 ≤ b → unbroken b ≡ true
unbroken_high b h = grind (arith, h)

pub opening_high : (b : ℕ) → 128 ≤ b → avoids openings b ≡ true
opening_high b h = grind (arith, h)

pub piece_unbroken : (p : Piece) → IsPiece p → list_all unbroken p.text ≡ true
piece_unbroken p h = subst (λ t. list_all unbroken t ≡ true) (encodes-chars p.text h.utf8) (encodes_passes unbroken unbroken_high (chars p.text) (token_unbroken p.kind (chars p.text) h.token))

-- how a line may begin
abbrev pub OpensLine : List ℕ → Type 0
OpensLine bs = BeginsWell (avoids openings) opening_high bs

opened : (k : TokenKind) (cs more : List ℕ) → Starts k cs → OpensLine (encodes cs ++ more)
opened k [] more h = absurd h
opened k (c ∷ cs) more h =
    subst OpensLine (sym (append_assoc (encode c) (encodes cs) more)) (first_passes (avoids openings) opening_high c (encodes cs ++ more) (avoiding openings (starts k) (starts_line k) c h))

pub piece_opens : (p : Piece) (more : List ℕ) → IsPiece p → OpensLine (p.text ++ more)
piece_opens p more h = subst (λ t. OpensLine (t ++ more)) (encodes-chars p.text h.utf8) (opened p.kind (chars p.text) more (token_starts p.kind (chars p.text) h.token))

gap_unbroken : (s : Bool) → list_all unbroken (gap s) ≡ true
gap_unbroken true = refl
gap_unbroken false = refl

pub text_unbroken : (ws : List Written) → AreWritten ws → list_all unbroken (text_of ws) ≡ true
text_unbroken [] h = refl
text_unbroken (w ∷ ws) h =
    all_append unbroken (gap w.spaced) (w.piece.text ++ text_of ws) (gap_unbroken w.spaced) (all_append unbroken w.piece.text (text_of ws) (piece_unbroken w.piece h.0) (text_unbroken ws h.2))
