use Rattle.std.proofs.Common.{List, subst}
use Rattle.opa_case.specs.declared.question.Question.{Question}
use Rattle.opa_mean.specs.Reached.Dirty.{slot_reads}
use Rattle.opa_session.specs.Readers.Indexes.{AddsReads}
use Rattle.opa_session.proofs.readers.Indexed.{adds_those}
use Rattle.opa_session.proofs.readers.fill.add_reader.Goals as goal

pub returns : goal.returns
returns c =
    adds_those c.in_ok-found.found (slot_reads c.args.base.now c.args.case.now c.args.attr c.args.inst.now) c.args.attr c.args.inst.now c.args.index.now c.add_questions.new.index c.in_ok-found.ensures
    (subst (λ (qs : List Question). AddsReads qs c.args.attr c.args.inst.now c.args.index.now c.add_questions.new.index) c.as_slice-questions.ensures c.in_ok-add_questions.ensures.adds)
