use Rattle.opa_rulebase.specs.Loading.{IsRefused}
use Rattle.opa_rulebase.proofs.LoadLaws.{plain_refusal}
use Rattle.opa_rulebase.proofs.accepting.accept.Goals as goal

pub returns-in-Err-clause-refused : goal.returns-in-Err-clause-refused
returns-in-Err-clause-refused c = plain_refusal c.args.files.now c.in-Err.error c.without_circle.result c.without_circle.ensures (λ f e. IsRefused.at_layout (c.in-Err.ensures.fault f e))
