-- Points as tokens spell them: a phrase, and the name of an instance.
use Rattle.std.specs.Prelude.{◌≡◌, ℕ, ◌+◌, List, [], ◌∷◌, ◌++◌, Bool, true, false, ◌&&◌, Option, None, Some, codes, if◌then◌else◌}
use Rattle.std.specs.List.{list_all}
use Rattle.opa_words.specs.declared.kinds.TokenKind.{TokenKind}
use Rattle.opa_words.specs.declared.kinds.TokenKind.TheVariants as kind
use Rattle.opa_words.specs.Kinds.{quoted}
use Rattle.opa_words.specs.Reserved.{is_word_kind, is_phrase_kind}
use Rattle.opa_words.specs.Pieces.{Piece, word, date, text, phrase_of}
use Rattle.opa_text.specs.declared.pointed.Point.{Point}

-- any Word followed by Words and Numbers
abbrev pub are_words : List Piece → Bool
are_words ps = list_all (λ p. is_phrase_kind p.kind) ps

abbrev pub is_run : List Piece → Bool
is_run [] = false
is_run (p ∷ ps) = is_word_kind p.kind && are_words ps

-- nothing, or `of` and a name between quotes
abbrev pub name_part : Option (List ℕ) → List Piece
name_part None = []
name_part (Some n) = word (codes "of") ∷ text n ∷ []

-- `PHRASE`, or `PHRASE of TEXT`
abbrev pub SpellsPoint : Point → List Piece → Type 0
SpellsPoint p ps = (ws : List Piece) × (is_run ws ≡ true) × (p.phrase ≡ phrase_of ws) × (ps ≡ ws ++ name_part p.name)

-- a point, `at` and a date
abbrev pub SpellsDated : Point → List ℕ → List Piece → Type 0
SpellsDated p t ps = (front : List Piece) × SpellsPoint p front × (ps ≡ front ++ word (codes "at") ∷ date t ∷ [])

-- ---- at the front of tokens

-- no point without a name goes on with these tokens: they begin with no Word, Number or text
abbrev pub ends_phrase : TokenKind → Bool
ends_phrase kind.Word = false
ends_phrase kind.Number = false
ends_phrase kind.Text = false
ends_phrase kind.Date = true
ends_phrase kind.Symbol = true

abbrev pub ends_plain : List Piece → Bool
ends_plain [] = true
ends_plain (p ∷ ps) = ends_phrase p.kind

abbrev pub EndsBefore : Option (List ℕ) → List Piece → Type 0
EndsBefore None rest = ends_plain rest ≡ true
EndsBefore (Some n) rest = Unit {0}

-- the first tokens are a point, which doesn't go on, and the rest follows
abbrev pub SpellsFirst : Point → List Piece → List Piece → Type 0
SpellsFirst p ps rest = (front : List Piece) × SpellsPoint p front × (ps ≡ front ++ rest) × EndsBefore p.name rest

-- ---- on the way there

-- how many tokens at the front may be a point: Words and Numbers, and a text behind them
abbrev pub with_text : TokenKind → ℕ
with_text kind.Text = 1
with_text k = 0

abbrev pub point_end : List Piece → ℕ
point_end [] = 0
point_end (p ∷ ps) = if is_phrase_kind p.kind then point_end ps + 1 else with_text p.kind

-- these tokens end with a word and one more token
abbrev pub EndsWith : List ℕ → TokenKind → List ℕ → List Piece → List Piece → Type 0
EndsWith w k t front ps = ps ≡ front ++ word w ∷ record { kind = k; text = t } ∷ []

-- these tokens are the point's phrase, and it has no name
abbrev pub IsPlain : Point → List Piece → Type 0
IsPlain p ps = (is_run ps ≡ true) × (p.phrase ≡ phrase_of ps) × (p.name ≡ None)

-- these tokens are the point's phrase, and its name stands between these quotes
abbrev pub IsNamed : Point → List ℕ → List Piece → Type 0
IsNamed p t ps = (is_run ps ≡ true) × (p.phrase ≡ phrase_of ps) × ((n : List ℕ) × (p.name ≡ Some n) × (quoted n ≡ t))
