use Rattle.opa_session.proofs.readers.Taking.{empty_gone}
use Rattle.opa_session.proofs.readers.take.drop_empty.Goals as goal

pub returns-then-is_empty_at : goal.returns-then-is_empty_at
returns-then-is_empty_at c = empty_gone c.args.cells.now c.remove.new.self (c.args.number, c.args.key.now) (c.is_empty_at.ensures c.if-is_empty_at.true) c.remove.ensures
