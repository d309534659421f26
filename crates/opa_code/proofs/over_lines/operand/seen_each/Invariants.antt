use Rattle.std.proofs.Common.{◌≡◌, take}
use Rattle.opa_code.proofs.over_lines.operand.seen_each.Given as goal

abbrev pub invariant-loop-line : goal.invariant-loop-line
invariant-loop-line l = l.operands ≡ take l.line-index l.lines
