use Rattle.std.proofs.Common.{◌≡◌, ◌++◌, map, length}
use Rattle.std.specs.Prelude.{filter}
use Rattle.std.specs.List.{All}
use Rattle.opa_words.specs.Layout.Blocks.{lines_of}
use Rattle.opa_decl.specs.Heads.{is_declaration}
use Rattle.opa_decl.specs.Cutting.{HaveTokens, block_of, IsShort}
use Rattle.opa_decl.proofs.cut.declaration_blocks.Given as goal

abbrev pub invariant-loop-block : goal.invariant-loop-block
invariant-loop-block l = record {
  same : map block_of l.cuts ++ filter is_declaration l.rest ≡ filter is_declaration l.blocks;
  tokens : All HaveTokens l.cuts;
  short : All IsShort (lines_of l.rest);
}

abbrev pub decreases-loop-block : goal.decreases-loop-block
decreases-loop-block l = length l.rest
