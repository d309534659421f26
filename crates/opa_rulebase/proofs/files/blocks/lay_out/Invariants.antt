use Rattle.std.proofs.Common.{◌≡◌, ◌+◌, ◌<◌, ◌^◌, ◌++◌, List, length, All}
use Rattle.opa_words.specs.declared.layout.block.Block.{Block}
use Rattle.opa_words.specs.Layout.Blocks.{lines_of}
use Rattle.opa_rulebase.specs.declared.files.source.SourceFile.{SourceFile}
use Rattle.opa_rulebase.specs.Files.Layouts.{AreLaid, IsShort, faults_from}
use Rattle.opa_rulebase.proofs.files.blocks.lay_out.Given as goal

abbrev pub invariant-loop-file : goal.invariant-loop-file
invariant-loop-file l = record {
  texts : All (λ (f : SourceFile). length f.text < 2 ^ 32) l.rest;
  places : l.place + length l.rest ≡ length l.files;
  laid : (bs : List Block) → AreLaid l.place l.rest bs → AreLaid 0 l.files (l.all ++ bs);
  faults : faults_from l.place l.rest ≡ faults_from 0 l.files;
  placed : All (λ (b : Block). b.file < l.place) l.all;
  short : All IsShort (lines_of l.all);
}

abbrev pub decreases-loop-file : goal.decreases-loop-file
decreases-loop-file l = length l.rest
