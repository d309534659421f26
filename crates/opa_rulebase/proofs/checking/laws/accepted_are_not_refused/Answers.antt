use Rattle.opa_rulebase.proofs.checking.AcceptedLaws.{accepted_are_not_refused_holds}
use Rattle.opa_rulebase.proofs.checking.laws.accepted_are_not_refused.Goals as goal

pub returns : goal.returns
returns c = accepted_are_not_refused_holds
