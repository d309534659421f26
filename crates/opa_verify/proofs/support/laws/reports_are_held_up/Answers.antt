use Rattle.opa_verify.proofs.support.Orderly.{reports_are_held_up_holds}
use Rattle.opa_verify.proofs.support.laws.reports_are_held_up.Goals as goal

pub returns : goal.returns
returns c = reports_are_held_up_holds
