use Rattle.opa_session.proofs.readers.Putting.{same_are_readers}
use Rattle.opa_session.proofs.readers.laws.same_are_readers.Goals as goal

pub returns : goal.returns
returns c = same_are_readers
