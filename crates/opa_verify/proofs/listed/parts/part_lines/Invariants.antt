use Rattle.std.proofs.Common.{take}
use Rattle.opa_verify.proofs.listed.PartLaws.{Tells}
use Rattle.opa_verify.proofs.listed.parts.part_lines.Given as goal

-- what is told of the lines so far
abbrev pub invariant-loop-line : goal.invariant-loop-line
invariant-loop-line l = Tells l.part (take l.line-index l.lines) l.parts.items
