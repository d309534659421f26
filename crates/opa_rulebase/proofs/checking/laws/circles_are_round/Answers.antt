use Rattle.opa_rulebase.proofs.checking.RoundLaws.{circles_are_round_holds}
use Rattle.opa_rulebase.proofs.checking.laws.circles_are_round.Goals as goal

pub returns : goal.returns
returns c = circles_are_round_holds
