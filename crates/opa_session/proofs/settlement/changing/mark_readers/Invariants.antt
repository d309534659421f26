use Rattle.std.proofs.Common.{take}
use Rattle.opa_session.specs.Settlement.Starts.{MarksReaders}
use Rattle.opa_session.proofs.settlement.changing.mark_readers.Given as goal

abbrev pub invariant-loop-question : goal.invariant-loop-question
invariant-loop-question g l = MarksReaders l.base (g.R.Reading.reading l.reading) (take l.question-index l.told) l.fn.tasks l.tasks
