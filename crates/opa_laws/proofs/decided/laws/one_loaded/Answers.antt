use Rattle.opa_laws.proofs.decided.FileLoading.{one_loaded_holds}
use Rattle.opa_laws.proofs.decided.laws.one_loaded.Goals as goal

pub returns : goal.returns
returns c = one_loaded_holds
