-- The tokens of a text with their texts.
use Rattle.std.specs.Prelude.{◌≡◌, ℕ, List, [], ◌∷◌, length, map, Bool, true, false}
use Rattle.std.specs.List.{All}
use Rattle.std.specs.Str.{chars, IsUtf8}
use Rattle.opa_words.specs.declared.kinds.TokenKind.{TokenKind}
use Rattle.opa_words.specs.declared.kinds.TokenKind.TheVariants as kind
use Rattle.opa_words.specs.declared.kinds.Token.{Token}
use Rattle.opa_words.specs.Places.{token_text, IsOfKind}
use Rattle.opa_words.specs.Kinds.{IsToken, quoted}
use Rattle.opa_words.specs.Cuts.{Cuts}
use Rattle.opa_words.specs.Reserved.{joined}
use Rattle.opa_words.specs.declared.pieces.Pieces.{Pieces}

-- a token with its text
pub record Piece : Type 0 where
  pub kind : TokenKind
  pub text : List ℕ

abbrev pub piece : List ℕ → Token → Piece
piece bytes t = record { kind = t.kind; text = token_text bytes t }

abbrev pub pieces : List ℕ → List Token → List Piece
pieces bytes ts = map (piece bytes) ts

-- what is left of the tokens of a text
abbrev pub seen : Pieces → List Piece
seen p = pieces p.text.now p.tokens.now

abbrev pub is_nothing : List Piece → Bool
is_nothing [] = true
is_nothing (p ∷ ps) = false

-- the phrase that such tokens are
abbrev pub phrase_of : List Piece → List ℕ
phrase_of ps = joined (map (λ p. p.text) ps)

-- each is what its kind says
abbrev pub AreOfKind : Pieces → Type 0
AreOfKind p = All (IsOfKind p.text.now) p.tokens.now

-- the text is cut into these tokens
abbrev pub IsCutInto : List ℕ → List Piece → Type 0
IsCutInto bytes ps = (ts : List Token) × Cuts (length bytes) (chars bytes) ts × (pieces bytes ts ≡ ps)

-- the text is one token of that kind
pub record IsPiece (p : Piece) : Type 0 where
  pub utf8 : IsUtf8 p.text
  pub token : IsToken p.kind (chars p.text)

abbrev pub word : List ℕ → Piece
word text = record { kind = kind.Word; text = text }

abbrev pub number : List ℕ → Piece
number text = record { kind = kind.Number; text = text }

abbrev pub date : List ℕ → Piece
date text = record { kind = kind.Date; text = text }

abbrev pub symbol : List ℕ → Piece
symbol text = record { kind = kind.Symbol; text = text }

-- a text between quotes
abbrev pub text : List ℕ → Piece
text inner = record { kind = kind.Text; text = quoted inner }
