use Rattle.opa_laws.proofs.verified.Runs.{run_reports_hold, interview_reports_hold}
use Rattle.opa_laws.proofs.verified.laws.reports_are_verified.Goals as goal

pub returns-clause-run : goal.returns-clause-run
returns-clause-run c = run_reports_hold

pub returns-clause-interview : goal.returns-clause-interview
returns-clause-interview c = interview_reports_hold
