use Rattle.opa_laws.proofs.verified.ReportsTold.{reports_are_of_cases_hold}
use Rattle.opa_laws.proofs.verified.laws.reports_are_of_cases.Goals as goal

pub returns : goal.returns
returns c = reports_are_of_cases_hold
