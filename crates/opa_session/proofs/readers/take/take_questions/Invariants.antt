use Rattle.std.proofs.Common.{take}
use Rattle.opa_session.specs.Readers.Indexes.{TakesReads}
use Rattle.opa_session.proofs.readers.take.take_questions.Given as goal

abbrev pub invariant-loop-question : goal.invariant-loop-question
invariant-loop-question l = TakesReads (take l.question-index l.questions) l.slot.attr l.slot.inst l.initial.index l.index
