use Rattle.std.proofs.Common.{◌≡◌, ◌+◌, ◌<◌, ◌≤◌, ◌++◌, ◌⊎◌, length, vec_len}
use denote.Text.{Utf8}
use denote.Shadow.{shadow}
use Rattle.opa_words.specs.Layout.Lines.{rows_from}
use Rattle.opa_words.specs.Layout.Faults.{faults_from, layout_faults}
use Rattle.opa_words.specs.Layout.Blocks.{AreBlocks, block_lines, lines_of, kept}
use Rattle.opa_words.proofs.layout.laying.blocks.Given as goal

abbrev pub invariant-loop-line : goal.invariant-loop-line
invariant-loop-line l = record {
  utf8 : shadow (Utf8 l.rest);
  lines : lines_of l.laid.items ++ kept (rows_from (l.count + 1) l.rest) ≡ block_lines l.text;
  blocks : AreBlocks l.file l.laid.items;
  faults : faults_from l.most (rows_from (l.count + 1) l.rest) ≡ layout_faults l.text;
  begun : (l.most ≡ 0) ⊎ (0 < vec_len l.laid);
  bound : l.count + length l.rest ≤ length l.text;
}

abbrev pub decreases-loop-line : goal.decreases-loop-line
decreases-loop-line l = length l.rest
