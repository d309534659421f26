use Rattle.opa_cases.proofs.StatusLaws.{promised}
use Rattle.opa_cases.proofs.calling.serve_cases.Goals as goal

pub returns : goal.returns
returns g c = record { promises = promised c.args.rulebase.now _ _ c.open_and_serve.result c.open_and_serve.ensures }
