use Rattle.std.proofs.Common.{take}
use Rattle.opa_session.specs.Readers.Touches.{AreAsked}
use Rattle.opa_session.proofs.readers.asking.asked_of.Given as goal

abbrev pub invariant-loop-question : goal.invariant-loop-question
invariant-loop-question l = AreAsked (take l.question-index l.questions) l.asked
