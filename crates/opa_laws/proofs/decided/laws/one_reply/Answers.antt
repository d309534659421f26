use Rattle.opa_laws.proofs.decided.Replying.{one_reply_holds, same_base_holds, stays_told_holds}
use Rattle.opa_laws.proofs.decided.laws.one_reply.Goals as goal

pub returns-clause-reply : goal.returns-clause-reply
returns-clause-reply c = one_reply_holds c.told_once.ensures c.one_report_told.ensures

pub returns-clause-base : goal.returns-clause-base
returns-clause-base c = same_base_holds

pub returns-clause-told : goal.returns-clause-told
returns-clause-told c = stays_told_holds
