use Rattle.opa_mean.proofs.kinds.LawsHold.{for_stands_to_one_holds}
use Rattle.opa_mean.proofs.kinds.laws.for_stands_to_one.Goals as goal

pub returns : goal.returns
returns c = for_stands_to_one_holds
