use Rattle.std.proofs.Common.{take}
use Rattle.opa_session.specs.Settlement.Starts.{MarksReaders}
use Rattle.opa_session.specs.Readers.Indexes.{readers_in}
use Rattle.opa_session.proofs.readers.touched.mark_readers.Given as goal

abbrev pub invariant-loop-question : goal.invariant-loop-question
invariant-loop-question l = MarksReaders l.base (readers_in l.index) (take l.question-index l.told) l.fn.tasks l.tasks
