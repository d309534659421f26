use Rattle.std.proofs.Common.{take}
use Rattle.opa_session.specs.Readers.Indexes.{AddsReads}
use Rattle.opa_session.proofs.readers.fill.add_questions.Given as goal

abbrev pub invariant-loop-question : goal.invariant-loop-question
invariant-loop-question l = AddsReads (take l.question-index l.questions) l.attr l.inst l.initial.index l.index
