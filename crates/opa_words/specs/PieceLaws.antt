-- Laws of texts that are written token by token.
use Rattle.std.specs.Prelude.{◌≡◌, ℕ, List}
use Rattle.std.specs.Str.{chars, IsUtf8}
use Rattle.std.specs.Prelude.{true, false, nat_lt}
use Rattle.std.specs.List.{list_all, list_any}
use Rattle.opa_words.specs.declared.kinds.TokenKind.{TokenKind}
use Rattle.opa_words.specs.Kinds.{IsToken}
use Rattle.opa_words.specs.Characters.{is_control}
use Rattle.opa_words.specs.Pieces.{Piece, IsPiece, IsCutInto, text}
use Rattle.opa_words.specs.Written.{Written, AreWritten, text_of, pieces_of}

-- a text is cut into at most one list of tokens
abbrev pub OneCutting : Type 0
OneCutting = (bytes : List ℕ) (ps qs : List Piece) → IsCutInto bytes ps → IsCutInto bytes qs → ps ≡ qs

-- what is written token by token is cut into those tokens
abbrev pub WrittenIsCut : Type 0
WrittenIsCut = (ws : List Written) → AreWritten ws → IsUtf8 (text_of ws) × IsCutInto (text_of ws) (pieces_of ws)

-- a text without control characters is a token between quotes
abbrev pub QuotedIsToken : Type 0
QuotedIsToken = (inner : List ℕ) → IsUtf8 inner → list_any is_control (chars inner) ≡ false → IsPiece (text inner)

-- ASCII characters that are a token are one as a text too
abbrev pub AsciiIsToken : Type 0
AsciiIsToken = (k : TokenKind) (bytes : List ℕ) → list_all (λ b. nat_lt b 128) bytes ≡ true → IsToken k bytes → IsPiece (record { kind = k; text = bytes })
