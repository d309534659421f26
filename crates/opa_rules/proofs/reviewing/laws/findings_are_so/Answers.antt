use Rattle.opa_rules.proofs.reviewing.SoLaws
use Rattle.opa_rules.proofs.reviewing.laws.findings_are_so.Goals as goal

pub returns : goal.returns
returns c = SoLaws.findings_are_so
