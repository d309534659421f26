use Rattle.opa_session.proofs.readers.Sifting.{none_asked}
use Rattle.opa_session.proofs.readers.asking.none_asked.Goals as goal

pub returns : goal.returns
returns c = none_asked c.new.result c.new-2.result c.new.ensures c.new-2.ensures
