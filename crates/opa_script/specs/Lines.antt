-- A line as it is read: its blanks, its text and its tokens.
use Rattle.std.specs.Prelude.{◌≡◌, ◌≤◌, ℕ, List, [], ◌∷◌, length, Bool, true, ◌||◌, ◌==◌, if◌then◌else◌}
use Rattle.std.specs.Str.{IsUtf8}
use Rattle.opa_words.specs.Pieces.{Piece, IsCutInto}
use Rattle.opa_script.specs.declared.fault.CmdFault.{CmdFault}
use Rattle.opa_script.specs.declared.fault.CmdFault.TheVariants as fault
use Rattle.opa_io.specs.declared.limits.TheConstants.{MOST_LINE}

-- what follows the blanks at the front
abbrev pub past_blanks : List ℕ → List ℕ
past_blanks [] = []
past_blanks (b ∷ bs) = if (b == 32) || (b == 9) then past_blanks bs else b ∷ bs

abbrev pub is_comment_or_nothing : List ℕ → Bool
is_comment_or_nothing [] = true
is_comment_or_nothing (b ∷ bs) = b == 35

-- the line is blank or a comment
abbrev pub is_idle : List ℕ → Bool
is_idle bytes = is_comment_or_nothing (past_blanks bytes)

-- the line isn't too long, is a text, and is cut into these tokens
abbrev pub HasTokens : List ℕ → List Piece → Type 0
HasTokens bytes ps = (length bytes ≤ MOST_LINE) × IsUtf8 bytes × IsCutInto bytes ps

-- ---- on the way there

-- the text of a line
pub record IsText (bytes t : List ℕ) : Type 0 where
  pub same : t ≡ bytes
  pub short : length bytes ≤ MOST_LINE
  pub utf8 : IsUtf8 bytes

abbrev pub IsNoText : List ℕ → CmdFault → Type 0
IsNoText bytes fault.NotACommand = (length bytes ≤ MOST_LINE) → IsUtf8 bytes → ⊥
IsNoText bytes fault.Name = ⊥
IsNoText bytes fault.Value = ⊥
IsNoText bytes fault.NoMemory = ⊥

abbrev pub IsNotCut : List ℕ → CmdFault → Type 0
IsNotCut bytes fault.NotACommand = (ps : List Piece) → IsCutInto bytes ps → ⊥
IsNotCut bytes fault.Name = ⊥
IsNotCut bytes fault.Value = ⊥
IsNotCut bytes fault.NoMemory = Unit {0}
