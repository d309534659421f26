-- What is read of the lines of a block.
use Rattle.std.specs.Prelude.{◌≡◌, ℕ, Bool, true, false, List, [], ◌∷◌, Option, Some, None}
use Rattle.opa_words.specs.declared.layout.block.BlockLine.{BlockLine}
use Rattle.opa_sentence.specs.declared.names.Names.{Names}
use Rattle.opa_sentence.specs.declared.reading.Reading.{Reading}
use Rattle.opa_sentence.specs.Lexemes.{Lexeme}
use Rattle.opa_sentence.specs.Grammar.{LINE}
use Rattle.opa_sentence.specs.Spelling.{IsSpelling}
use Rattle.opa_parse.specs.declared.group.Front.TheVariants as front
use Rattle.opa_parse.specs.declared.group.Group.{Group}
use Rattle.opa_parse.specs.declared.group.Said.{Said}
use Rattle.opa_parse.specs.declared.group.Sort.{Sort}
use Rattle.opa_parse.specs.declared.group.Sort.TheVariants as sort
use Rattle.opa_parse.specs.declared.line.Ending.{Ending}
use Rattle.opa_parse.specs.declared.line.Ending.TheVariants as ending
use Rattle.opa_parse.specs.declared.line.Line.{Line}
use Rattle.opa_parse.specs.GroupTable.{Reads, items}
use Rattle.opa_parse.specs.Lines.{AreLines, ending_of}
use Rattle.opa_parse.specs.Openings.{past_equals}
use Rattle.opa_parse.specs.Sayings.{of_line}

abbrev pub is_over : List Line → Bool
is_over [] = true
is_over (l ∷ ls) = false

abbrev pub is_nothing : Ending → Bool
is_nothing ending.Nothing = true
is_nothing e = false

-- where the group below the first line begins
abbrev pub below_first : Sort
below_first = sort.Item (items 1 front.Nothing)

-- what the lines say, read as one of that sort, or none
abbrev pub IsSaid : Names → Sort → List BlockLine → Option Said → Type 0
IsSaid ns start lines None = (ls : List Line) (g : Group) → AreLines ns lines ls → Reads ns start ls g [] → ⊥
IsSaid ns start lines (Some s) = (ls : List Line) × (g : Group) × AreLines ns lines ls × Reads ns start ls g [] × (g.said ≡ s)

-- what the line after the equals sign says, where no lines follow, or none
abbrev pub IsLineSaid : Names → ℕ → List Lexeme → List BlockLine → Option Said → Type 0
IsLineSaid ns number words lines None = (x : Reading) → lines ≡ [] → ending_of (past_equals words) ≡ ending.Nothing → IsSpelling ns LINE (past_equals words) (Some x) → ⊥
IsLineSaid ns number words lines (Some s) = (x : Reading) × (lines ≡ []) × (ending_of (past_equals words) ≡ ending.Nothing) × IsSpelling ns LINE (past_equals words) (Some x) × (s ≡ of_line number x)
