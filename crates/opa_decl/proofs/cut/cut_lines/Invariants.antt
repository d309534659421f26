use Rattle.std.proofs.Common.{◌≡◌, map, take}
use Rattle.std.specs.List.{All}
use Rattle.opa_decl.specs.Cutting.{HasTokens, line_of}
use Rattle.opa_decl.proofs.cut.cut_lines.Given as goal

abbrev pub invariant-loop-line : goal.invariant-loop-line
invariant-loop-line l = record {
  same : map line_of l.cuts ≡ take l.line-index l.lines;
  tokens : All (λ cut. HasTokens cut.text cut.tokens) l.cuts;
}
