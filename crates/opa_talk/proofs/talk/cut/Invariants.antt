use Rattle.std.proofs.Common.{take}
use Rattle.opa_talk.specs.Lines.{IsPart}
use Rattle.opa_talk.proofs.talk.cut.Given as goal

abbrev pub invariant-loop-i : goal.invariant-loop-i
invariant-loop-i l = IsPart (take l.i l.bytes)
