use Rattle.std.proofs.Common.{take}
use Rattle.opa_code.specs.OverLines.Tallies.{AreConstant}
use Rattle.opa_code.proofs.over_lines.steady.constant_tally.Given as goal

abbrev pub invariant-loop-operand : goal.invariant-loop-operand
invariant-loop-operand l = AreConstant l.most (take l.operand-index l.operands) l.tally
