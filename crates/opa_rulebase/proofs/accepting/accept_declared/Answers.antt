use Rattle.opa_rulebase.specs.Loading.{IsRefused}
use Rattle.opa_rulebase.proofs.LoadLaws.{plain_refusal}
use Rattle.opa_rulebase.proofs.accepting.accept_declared.Goals as goal

pub returns-in-Err-clause-refused : goal.returns-in-Err-clause-refused
returns-in-Err-clause-refused c = plain_refusal c.args.files.now c.in-Err.error c.without_circle.result c.without_circle.ensures (λ f e. IsRefused.at_members c.args.blocks.now c.args.model c.requires.declared (c.in-Err.ensures.refused f e))
