use Rattle.opa_verify.proofs.support.Reporting.{report_is_held_up_holds}
use Rattle.opa_verify.proofs.support.laws.report_is_held_up.Goals as goal

pub returns : goal.returns
returns c = report_is_held_up_holds
