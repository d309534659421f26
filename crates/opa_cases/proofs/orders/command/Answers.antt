use Rattle.std.proofs.Common.{subst}
use Rattle.opa_script.specs.Commands.{IsNoCommand}
use Rattle.opa_cases.proofs.orders.command.Goals as goal

pub returns-in-Err-clause-fault : goal.returns-in-Err-clause-fault
returns-in-Err-clause-fault c = subst (λ b. IsNoCommand c.args.model.now b c.in-Err.fault) c.as_bytes.ensures.value c.in-Err.ensures.fault
