use Rattle.opa_verify.proofs.spelling.Spotted.{unread_name}
use Rattle.opa_verify.proofs.spelling.spots.name_in.Goals as goal

pub returns-in-Err : goal.returns-in-Err
returns-in-Err c = unread_name c.args.text.now c.in-Err.ensures.cases.0
