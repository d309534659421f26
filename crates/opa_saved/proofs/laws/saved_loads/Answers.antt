use Rattle.opa_saved.proofs.Reloaded as reloaded
use Rattle.opa_saved.proofs.laws.saved_loads.Goals as goal

pub returns : goal.returns
returns c = reloaded.saved_loads
