-- Texts that are written token by token.
use Rattle.std.specs.Prelude.{◌≡◌, ℕ, List, [], ◌∷◌, ◌++◌, map, Bool, true, false, ◌||◌, ◌==◌, codes, if◌then◌else◌}
use Rattle.std.specs.List.{list_any}
use Rattle.std.specs.Str.{chars}
use Rattle.opa_words.specs.Kinds.{is_single}
use Rattle.opa_words.specs.Pieces.{Piece, IsPiece}

-- a token, and whether a blank stands before it
pub record Written : Type 0 where
  pub spaced : Bool
  pub piece : Piece

abbrev pub spaced : Piece → Written
spaced p = record { spaced = true; piece = p }

abbrev pub joined : Piece → Written
joined p = record { spaced = false; piece = p }

abbrev pub gap : Bool → List ℕ
gap s = if s then 32 ∷ [] else []

-- the text that is written
abbrev pub text_of : List Written → List ℕ
text_of [] = []
text_of (w ∷ ws) = gap w.spaced ++ (w.piece.text ++ text_of ws)

-- a character that goes on no token but a text between quotes
abbrev pub parts : ℕ → Bool
parts c = list_any (λ d. c == d) (32 ∷ codes ";,():")

abbrev pub begins_apart : List ℕ → Bool
begins_apart [] = false
begins_apart (c ∷ cs) = parts c

-- a symbol that begins no longer one
abbrev pub stands_alone : List ℕ → Bool
stands_alone [] = false
stands_alone (c ∷ []) = is_single c
stands_alone (c ∷ d ∷ cs) = false

-- the first can't be read on into what is written after it
abbrev pub ends_before : Piece → List Written → Bool
ends_before p [] = true
ends_before p (w ∷ ws) = w.spaced || (begins_apart (chars w.piece.text) || stands_alone (chars p.text))

-- each is a token, and ends before what comes after it
abbrev pub AreWritten : List Written → Type 0
AreWritten [] = Unit {0}
AreWritten (w ∷ ws) = IsPiece w.piece × (ends_before w.piece ws ≡ true) × AreWritten ws

abbrev pub pieces_of : List Written → List Piece
pieces_of ws = map (λ w. w.piece) ws
