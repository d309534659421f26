-- The files of the generated rulebase: one, which names no other.
use Rattle.std.proofs.Common.{◌≡◌, ◌∙◌, ℕ, List, [], ◌∷◌, Bool, true, false, refl, sym, ap, arith}
use Rattle.std.specs.Prelude.{Ok, codes, not, is_some, ◌&&◌}
use Rattle.std.specs.List.{list_all}
use Rattle.std.specs.Str.{bytes_eq}
use Rattle.std.proofs.lemmas.Bool.{false≢true}
use Rattle.opa_io.specs.Outside.{Files}
use Rattle.opa_io.proofs.Bools.{and_first, and_second}
use Rattle.opa_io.proofs.Utf8.{text_of_text}
use Rattle.opa_words.specs.Layout.Lines.{Row, rows}
use Rattle.opa_words.specs.Pieces.{Piece, pieces, word, text}
use Rattle.opa_words.proofs.Ascii.{is_ascii, ascii_utf8}
use Rattle.opa_words.proofs.LawsHold.{one_cutting_holds}
use Rattle.opa_script.specs.Examples.{rules_text}
use Rattle.opa_rulebase.specs.declared.files.source.SourceFile.{SourceFile}
use Rattle.opa_rulebase.specs.Files.FileLines as lines
use Rattle.opa_rulebase.specs.Files.FileLines.{AreFileLines, NamesNone, first_word}
use Rattle.opa_rulebase.specs.Files.Files as shelf
use Rattle.opa_rulebase.specs.Files.Files.{AreFiles, text_in, text_or_fault, text_under, source}
use Rattle.opa_laws.specs.Generated.{HasRules}
use Rattle.opa_laws.proofs.generated.AsciiCuts.{IsLine, line_cuts, line_is_cut, tokens}

-- the first token is neither `include` nor `table`
abbrev names_none : List Piece → Bool
names_none [] = true
names_none (p ∷ ps) = not (bytes_eq p.text (codes "include")) && not (bytes_eq p.text (codes "table"))

names_one : (t : Bool) (ps : List Piece) → names_none (word (first_word t) ∷ ps) ≡ false
names_one true ps = refl
names_one false ps = refl

no_file : (number : ℕ) (bytes : List ℕ) → IsLine bytes → names_none (pieces bytes (tokens bytes)) ≡ true → NamesNone number bytes
no_file number bytes cut none f is =
    let same = one_cutting_holds bytes (pieces bytes (tokens bytes)) (word (first_word f.is_table) ∷ text f.name ∷ []) (tokens bytes, line_is_cut bytes cut, refl) is.tokens in
    absurd (false≢true (sym (names_one f.is_table (text f.name ∷ [])) ∙ ap names_none (sym same) ∙ none))

abbrev passes : Row → Bool
passes r = list_all is_ascii r.text && (is_some (line_cuts r.text) && names_none (pieces r.text (tokens r.text)))

no_files : (rs : List Row) → list_all passes rs ≡ true → AreFileLines rs []
no_files [] h = lines.AreFileLines.none
no_files (r ∷ rs) h =
    let own = and_first (passes r) (list_all passes rs) h in
    let more = and_second (list_all is_ascii r.text) (is_some (line_cuts r.text) && names_none (pieces r.text (tokens r.text))) own in
    lines.AreFileLines.passed
    (no_file r.number r.text (
      and_first (list_all is_ascii r.text) (is_some (line_cuts r.text) && names_none (pieces r.text (tokens r.text))) own,
      and_first (is_some (line_cuts r.text)) (names_none (pieces r.text (tokens r.text))) more,
    )
    (and_second (is_some (line_cuts r.text)) (names_none (pieces r.text (tokens r.text))) more))
    (no_files rs (and_second (passes r) (list_all passes rs) h))

abbrev pub sources : List ℕ → List SourceFile
sources name = source name false rules_text ∷ []

pub files_are : (files : Files) (name : List ℕ) → HasRules files name → AreFiles files name (Ok (sources name))
files_are files name is =
    let read : text_under files name ≡ Ok rules_text = ap text_in is ∙ ap text_or_fault (sym (text_of_text rules_text (ascii_utf8 rules_text refl))) in
    shelf.AreFiles.with_named rules_text [] (record { text_is = read; lines_are = no_files (rows rules_text) refl }) (omega arith)
