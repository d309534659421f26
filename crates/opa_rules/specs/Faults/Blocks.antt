-- Blocks in which errors are, and what is left without them.
use Rattle.std.specs.Prelude.{ℕ, Bool, true, false, not, ◌&&◌, ◌||◌, ◌==◌, nat_eq, if◌then◌else◌, List, [], ◌∷◌, codes, filter, find, Option}
use Rattle.std.specs.List.{list_any, starts_with}
use Rattle.std.specs.Option.{option_and_then}
use Rattle.std.specs.Str.{bytes_eq}
use Rattle.opa_words.specs.declared.layout.block.Block.{Block}
use Rattle.opa_words.specs.declared.layout.block.BlockLine.{BlockLine}

abbrev pub has_number : ℕ → BlockLine → Bool
has_number line l = l.line == line

-- the block has this line of this file
abbrev pub has_line : ℕ → ℕ → Block → Bool
has_line file line b = b.file == file && list_any (has_number line) b.lines

-- a line of a file, if it is laid out in one of the blocks
abbrev pub line_at : ℕ → ℕ → List Block → Option BlockLine
line_at file line blocks = option_and_then (λ b. find (has_number line) b.lines) (find (has_line file line) blocks)

-- the blocks that don't have the line
abbrev pub without : ℕ → ℕ → List Block → List Block
without file line blocks = filter (λ b. not (has_line file line b)) blocks

abbrev pub begins_with : List ℕ → List ℕ → Bool
begins_with word text = starts_with nat_eq text word

-- the first line of a block that says what other blocks speak of
abbrev pub is_declaration : List ℕ → Bool
is_declaration text =
    if bytes_eq text (codes "global") then true else
    (begins_with (codes "entity ") text || begins_with (codes "verb ") text || begins_with (codes "members ") text || begins_with (codes "include ") text || begins_with (codes "table ") text)

abbrev pub declares_in : List BlockLine → Bool
declares_in [] = false
declares_in (l ∷ ls) = is_declaration l.text

abbrev pub declares : Block → Bool
declares b = declares_in b.lines

-- phrases are read in each line of a rule, a goal or a screen, and in each line of a membership block but the first
abbrev pub reads_phrases : ℕ → List BlockLine → Bool
reads_phrases line [] = false
reads_phrases line (l ∷ ls) = not (is_declaration l.text) || (begins_with (codes "members ") l.text && not (l.line == line))
