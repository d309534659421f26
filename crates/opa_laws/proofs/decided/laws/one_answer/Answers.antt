use Rattle.opa_laws.proofs.decided.Interviewing.{one_answer_holds, base_stays_asked, told_stays_asked}
use Rattle.opa_laws.proofs.decided.laws.one_answer.Goals as goal

pub returns-clause-reply : goal.returns-clause-reply
returns-clause-reply c = one_answer_holds c.told_once.ensures c.one_report_told.ensures

pub returns-clause-base : goal.returns-clause-base
returns-clause-base c = base_stays_asked

pub returns-clause-told : goal.returns-clause-told
returns-clause-told c = told_stays_asked
