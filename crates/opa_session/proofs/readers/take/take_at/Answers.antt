use Rattle.opa_session.proofs.readers.Taking.{takes_then}
use Rattle.opa_session.proofs.readers.take.take_at.Goals as goal

pub returns : goal.returns
returns c = takes_then c.args.cells.now c.drop_at.new.cells c.drop_empty.new.cells (c.args.number, c.args.key.now) (c.args.slot.now.attr, c.args.slot.now.inst) c.drop_at.ensures c.drop_empty.ensures
