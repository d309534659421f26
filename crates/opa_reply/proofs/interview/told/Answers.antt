use Rattle.opa_reply.proofs.ReadLaws.{not_told}
use Rattle.opa_reply.proofs.interview.told.Goals as goal

pub returns-in-Err-clause-fault : goal.returns-in-Err-clause-fault
returns-in-Err-clause-fault c =
    not_told c.args.model.now c.args.asked.now _ c.args.line.now _ c.in-Err.fault _ c.in-Some.is c.is_long_reply.ensures c.if-is_long_reply.false c.text_of.ensures c.in-Err.ensures.fault
