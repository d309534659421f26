use Rattle.opa_mean.proofs.reached.Reaching.{new_is_dirty}
use Rattle.opa_mean.proofs.reached.laws.new_is_dirty.Goals as goal

pub returns : goal.returns
returns c = new_is_dirty
