-- What is said of an error, and where its mark is.
use Rattle.std.specs.Prelude.{◌≤◌, ℕ, ◌+◌, ◌*◌, List, [], length, take, replicate, Option, Some, None}
use Rattle.std.specs.Str.{chars, IsCharBoundary}
use Rattle.opa_words.specs.declared.layout.block.BlockLine.{BlockLine}
use Rattle.opa_tree.specs.declared.faults.RbKind.{RbKind}
use Rattle.opa_rules.specs.declared.faults.marks.Told.{Told}
use Rattle.opa_rules.specs.declared.faults.slip.Slip.{Slip}
use Rattle.opa_rules.specs.Faults.Words.{words_of}

-- counted from 1; two blanks or a tab are one level of indentation
abbrev pub column_of : Option BlockLine → ℕ
column_of None = 1
column_of (Some l) = l.level * 2 + 1

-- the words of the kind, and the mark below the first character of the line with this number
abbrev pub plain : ℕ → RbKind → Option BlockLine → Told
plain n k line = record { line = n; words = words_of k; column = column_of line; blanks = [] }

-- how many characters stand before a byte of a text
abbrev pub characters_before : List ℕ → ℕ → ℕ
characters_before text place = length (chars (take place text))

-- words, and the mark in a line behind so many characters
abbrev pub marked : BlockLine → ℕ → List ℕ → Told
marked l before words = record { line = l.line; words = words; column = column_of (Some l) + before; blanks = replicate before 32 }

-- a mark can be within a text or at its end
abbrev pub IsMark : List ℕ → Slip × ℕ → Type 0
IsMark text x = (x.1 ≤ length text) × IsCharBoundary text x.1
