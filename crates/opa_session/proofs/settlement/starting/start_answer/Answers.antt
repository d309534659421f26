use Rattle.std.specs.Option.{option_copied}
use Rattle.opa_mean.specs.Reached.Slots.{slots_in}
use Rattle.opa_session.proofs.settlement.Answered.{begun_same, begun_changed}
use Rattle.opa_session.proofs.settlement.starting.start_answer.Goals as goal

pub returns-in_ok-mark_set-clause-begun : goal.returns-in_ok-mark_set-clause-begun
returns-in_ok-mark_set-clause-begun g c =
    begun_changed c.args.base.now c.args.next.now.case.now c.args.next.now.attr c.args.next.now.inst.now (option_copied c.args.next.now.line) c.requires.before c.requires.after c.requires.unruled (g.R.Readers.readers c.args.readers.now) c.requires.readers
    (option_copied c.answer_of.result) c.answer_of.ensures.value c.in_ok-differs.differs c.in_ok-differs.ensures c.if-differs.true (slots_in (option_copied c.of_line-reading.result)) c.of_line-reading.ensures c.new-tasks.result c.mark_set.new.tasks c.new-tasks.ensures c.in_ok-mark_set.ensures

pub returns-else-differs-clause-begun : goal.returns-else-differs-clause-begun
returns-else-differs-clause-begun g c =
    begun_same c.args.base.now c.args.next.now.case.now c.args.next.now.attr c.args.next.now.inst.now (option_copied c.args.next.now.line) c.requires.before c.requires.after c.requires.unruled (g.R.Readers.readers c.args.readers.now) c.requires.readers
    (option_copied c.answer_of.result) c.answer_of.ensures.value c.in_ok-differs.differs c.in_ok-differs.ensures c.if-differs.false c.new-tasks.result c.new-tasks.ensures
