use Rattle.opa_reply.proofs.ReadLaws.{not_asked}
use Rattle.opa_reply.proofs.replying.asked.Goals as goal

pub returns-in-Err-clause-fault : goal.returns-in-Err-clause-fault
returns-in-Err-clause-fault c = not_asked c.args.model.now c.args.line.now _ c.in-Err.fault _ c.is_too_long.ensures c.if-is_too_long.false c.text_of.ensures c.in-Err.ensures.fault
