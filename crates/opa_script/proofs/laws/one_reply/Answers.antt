use Rattle.opa_script.proofs.ReplyLaws.{one_reply_holds}
use Rattle.opa_script.proofs.laws.one_reply.Goals as goal

pub returns : goal.returns
returns c = one_reply_holds
