use Rattle.opa_reply.proofs.reporting.ReportLaws.{one_report_told}
use Rattle.opa_reply.proofs.reporting.laws.one_report_told.Goals as goal

pub returns : goal.returns
returns c = one_report_told c.at_most_one.ensures
