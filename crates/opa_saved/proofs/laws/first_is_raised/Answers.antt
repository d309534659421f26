use Rattle.opa_saved.proofs.RaisedLaws.{first_is_raised}
use Rattle.opa_saved.proofs.laws.first_is_raised.Goals as goal

pub returns : goal.returns
returns c = first_is_raised
