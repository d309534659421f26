use Rattle.opa_session.proofs.readers.Indexed.{none_read}
use Rattle.opa_session.proofs.readers.fill.no_readers.Goals as goal

pub returns : goal.returns
returns c = none_read c.new.result c.new-2.result c.new.ensures c.new-2.ensures
