-- How errors are printed.
use Rattle.std.specs.Prelude.{ℕ, List, [], ◌∷◌, ◌++◌, codes, Option, Some, None}
use Rattle.std.specs.Fmt.{decimal}
use Rattle.opa_words.specs.Names.{printed_name}
use Rattle.opa_words.specs.declared.layout.block.Block.{Block}
use Rattle.opa_words.specs.declared.layout.block.BlockLine.{BlockLine}
use Rattle.opa_rulebase.specs.declared.fault.Refusal.{Refusal}
use Rattle.opa_rulebase.specs.declared.files.source.SourceFile.{SourceFile}
use Rattle.opa_rulebase.specs.Loading.{name_at}
use Rattle.opa_rulebase.specs.Printed.{circle_lines}
use Rattle.opa_rules.specs.Faults.Blocks.{line_at}
use Rattle.opa_rules.specs.declared.faults.marks.Told.{Told}

-- the line, and a mark below it behind so many blanks
abbrev pub source_of : Option BlockLine → List ℕ → List ℕ
source_of None blanks = []
source_of (Some l) blanks = codes "  " ++ (printed_name l.text ++ (10 ∷ codes "  " ++ (blanks ++ (codes "^" ++ 10 ∷ []))))

-- `FILE:LINE:COLUMN: error: WORDS`, the phrases of a circle, and the line
abbrev pub error_text : List ℕ → List (List ℕ) → Option BlockLine → Told → List ℕ
error_text name circle line told =
    printed_name name ++ (codes ":" ++ (decimal told.line ++ (codes ":" ++ (decimal told.column ++ (codes ": error: " ++ (told.words ++ (10 ∷ circle_lines circle ++ source_of line told.blanks)))))))

-- an error of files, with the line that is told as these blocks have it
abbrev pub error_in : List SourceFile → List Block → Refusal → Told → List ℕ
error_in files blocks w told = error_text (name_at files w.fault.file) w.circle (line_at w.fault.file told.line blocks) told
