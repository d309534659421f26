use Rattle.opa_verify.proofs.spelling.Placed.{unread_origin}
use Rattle.opa_verify.proofs.spelling.told.source_in.Goals as goal

pub returns-in-Err : goal.returns-in-Err
returns-in-Err c = unread_origin c.args.text.now c.in-Err.ensures.cases.0
