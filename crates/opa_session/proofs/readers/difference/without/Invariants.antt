use Rattle.std.proofs.Common.{take}
use Rattle.opa_session.specs.Readers.Touches.{AreSifted}
use Rattle.opa_session.proofs.readers.difference.without.Given as goal

abbrev pub invariant-loop-question : goal.invariant-loop-question
invariant-loop-question l = AreSifted l.others (take l.question-index l.questions) l.passed l.left
