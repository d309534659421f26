-- The blocks of a text.
use Rattle.std.specs.Prelude.{◌≡◌, ℕ, ◌<◌, Option, Some, None, List, [], ◌∷◌, ◌++◌, if◌then◌else◌}
use Rattle.opa_words.specs.declared.layout.block.Block.{Block}
use Rattle.opa_words.specs.declared.layout.block.BlockLine.{BlockLine}
use Rattle.opa_words.specs.Layout.Lines.{Row, rows}
use Rattle.opa_words.specs.Layout.Indents.{level, past_blanks, is_passed}

abbrev pub line_of : Row → BlockLine
line_of r = record { level = level r.text; line = r.number; text = past_blanks r.text }

-- the line, if it is neither blank nor a comment
abbrev pub line_kept : Row → Option BlockLine
line_kept r = if is_passed r.text then None else Some (line_of r)

-- the lines that are neither blank nor comments
abbrev pub kept : List Row → List BlockLine
kept [] = []
kept (r ∷ rs) = if is_passed r.text then kept rs else line_of r ∷ kept rs

abbrev pub block_lines : List ℕ → List BlockLine
block_lines bytes = kept (rows bytes)

-- the lines of blocks, in order
abbrev pub lines_of : List Block → List BlockLine
lines_of [] = []
lines_of (b ∷ bs) = b.lines ++ lines_of bs

abbrev pub AreDeeper : List BlockLine → Type 0
AreDeeper [] = Unit {0}
AreDeeper (l ∷ ls) = (0 < l.level) × AreDeeper ls

-- a line of level 0 with deeper lines after it
abbrev pub IsHeaded : List BlockLine → Type 0
IsHeaded [] = ⊥
IsHeaded (l ∷ ls) = (l.level ≡ 0) × AreDeeper ls

-- blocks of this file
abbrev pub AreBlocks : ℕ → List Block → Type 0
AreBlocks file [] = Unit {0}
AreBlocks file (b ∷ bs) = (b.file ≡ file) × IsHeaded b.lines × AreBlocks file bs
