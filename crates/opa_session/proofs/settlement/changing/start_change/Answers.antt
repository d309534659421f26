use Rattle.opa_session.proofs.settlement.Changed.{change_begun, change_ranked}
use Rattle.opa_session.proofs.settlement.changing.start_change.Goals as goal

pub returns-clause-begun : goal.returns-clause-begun
returns-clause-begun g c =
    change_begun c.args.base.now c.args.held.now c.args.next.now c.requires.after (g.R.Reading.reading c.args.reading.now) c.requires.readers c.args.fresh.now c.requires.fresh c.args.told.now c.requires.told c.new-tasks.result c.mark.new.tasks c.mark_readers.new.tasks c.new-tasks.ensures c.in_ok-mark.ensures c.in_ok-mark_readers.ensures

pub returns-clause-ranked : goal.returns-clause-ranked
returns-clause-ranked g c =
    change_ranked c.args.base.now c.args.held.now c.args.next.now c.requires.after (g.R.Reading.reading c.args.reading.now) c.requires.readers c.args.fresh.now c.requires.fresh c.args.told.now c.requires.told c.new-tasks.result c.mark.new.tasks c.mark_readers.new.tasks c.new-tasks.ensures c.in_ok-mark.ensures c.in_ok-mark_readers.ensures
