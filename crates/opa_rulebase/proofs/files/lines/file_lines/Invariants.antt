use Rattle.std.proofs.Common.{◌+◌, ◌≤◌, ◌++◌, List, length}
use denote.Text.{Utf8}
use denote.Shadow.{shadow}
use Rattle.opa_words.specs.Layout.Lines.{rows, rows_from}
use Rattle.opa_rulebase.specs.declared.files.source.FileLine.{FileLine}
use Rattle.opa_rulebase.specs.Files.FileLines.{AreFileLines}
use Rattle.opa_rulebase.proofs.files.lines.file_lines.Given as goal

abbrev pub invariant-loop-line : goal.invariant-loop-line
invariant-loop-line l = record {
  utf8 : shadow (Utf8 l.rest);
  lines : (fs : List FileLine) → AreFileLines (rows_from (l.count + 1) l.rest) fs → AreFileLines (rows l.text) (l.found ++ fs);
  bound : l.count + length l.rest ≤ length l.text;
}

abbrev pub decreases-loop-line : goal.decreases-loop-line
decreases-loop-line l = length l.rest
