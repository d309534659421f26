use Rattle.opa_rulebase.proofs.checking.ExistLaws.{ranks_exist_holds}
use Rattle.opa_rulebase.proofs.checking.laws.ranks_exist.Goals as goal

pub returns : goal.returns
returns c = ranks_exist_holds
