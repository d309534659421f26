use Rattle.opa_verify.proofs.verdict.Renamed.{reports_get_yes_holds, reports_are_supported_holds, reports_tell_values_hold}
use Rattle.opa_verify.proofs.verdict.laws.reports_get_yes.Goals as goal

pub returns-clause-verdict : goal.returns-clause-verdict
returns-clause-verdict c = reports_get_yes_holds

pub returns-clause-told : goal.returns-clause-told
returns-clause-told c = reports_are_supported_holds

pub returns-clause-values : goal.returns-clause-values
returns-clause-values c = reports_tell_values_hold
