use Rattle.std.proofs.Common.{IfErr, subst, ◌∙◌}
use Rattle.opa_script.specs.Commands.{IsNoCommand}
use Rattle.opa_batch.proofs.lines.asked_of.Goals as goal

pub returns-in_ok-line-in-None-clause-fault : goal.returns-in_ok-line-in-None-clause-fault
returns-in_ok-line-in-None-clause-fault c = subst (λ bs. IfErr c.asked.result (IsNoCommand c.args.model.now bs)) (c.as_slice.ensures.value ∙ c.in_ok-line-in-None.ensures) c.asked.ensures.fault
