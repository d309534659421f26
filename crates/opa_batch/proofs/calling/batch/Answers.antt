use Rattle.opa_batch.proofs.StatusLaws.{promised}
use Rattle.opa_batch.proofs.calling.batch.Goals as goal

pub returns-clause-promises : goal.returns-clause-promises
returns-clause-promises g c = promised c.args.rulebase.now _ _ c.serve.result c.serve.ensures.serves c.serve.ensures.files
