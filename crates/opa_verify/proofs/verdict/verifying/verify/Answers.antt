use Rattle.opa_verify.proofs.verdict.Judged.{supported}
use Rattle.opa_verify.proofs.verdict.Renamed.{reports_get_yes_holds}
use Rattle.opa_verify.proofs.verdict.Saying.{told_judges}
use Rattle.opa_verify.proofs.verdict.verifying.verify.Goals as goal

pub returns-clause-judged : goal.returns-clause-judged
returns-clause-judged c = told_judges c.args.base.now c.args.report.now c.in_ok-told.told.verdict c.in_ok-told.told.text c.in_ok-told.ensures

pub returns-clause-supported : goal.returns-clause-supported
returns-clause-supported c = λ yes. supported c.args.base.now c.args.report.now c.in_ok-told.told.verdict (told_judges c.args.base.now c.args.report.now c.in_ok-told.told.verdict c.in_ok-told.told.text c.in_ok-told.ensures) yes

pub returns-clause-complete : goal.returns-clause-complete
returns-clause-complete c = λ of. reports_get_yes_holds c.args.base.now c.args.report.now c.in_ok-told.told.verdict of (told_judges c.args.base.now c.args.report.now c.in_ok-told.told.verdict c.in_ok-told.told.text c.in_ok-told.ensures)
