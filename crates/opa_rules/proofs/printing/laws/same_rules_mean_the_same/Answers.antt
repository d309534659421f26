use Rattle.opa_rules.proofs.MeaningLaws.{same_meaning}
use Rattle.opa_rules.proofs.printing.laws.same_rules_mean_the_same.Goals as goal

pub returns : goal.returns
returns c = same_meaning
