use Rattle.opa_case.proofs.Replacing.{set_replaces}
use Rattle.opa_case.proofs.laws.set_replaces.Goals as goal

pub returns : goal.returns
returns c = set_replaces
