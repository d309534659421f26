use Rattle.opa_verify.proofs.spelling.Namely.{unread_list}
use Rattle.opa_verify.proofs.spelling.names.names_in.Goals as goal

pub returns-in-Err : goal.returns-in-Err
returns-in-Err c = unread_list c.args.text.now c.in-Err.ensures.cases.0
