use Rattle.opa_rules.proofs.describing.AlikeLaws
use Rattle.opa_rules.proofs.describing.laws.one_description.Goals as goal

pub returns : goal.returns
returns c = AlikeLaws.one_description
