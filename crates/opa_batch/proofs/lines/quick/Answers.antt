use Rattle.opa_batch.proofs.AimLaws.{quick_says}
use Rattle.opa_batch.proofs.lines.quick.Goals as goal

pub returns-in_ok-said-in-Some : goal.returns-in_ok-said-in-Some
returns-in_ok-said-in-Some c = record { command = quick_says c.args.model.now c.args.head.now c.args.aim.now c.in-Some.aim c.args.cell.now c.in_ok-said-in-Some.said c.in-Some.is c.requires c.in_ok-said-in-Some.ensures }
