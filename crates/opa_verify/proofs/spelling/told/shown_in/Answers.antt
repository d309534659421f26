use Rattle.opa_verify.proofs.spelling.Telling.{unread_shown}
use Rattle.opa_verify.proofs.spelling.told.shown_in.Goals as goal

pub returns-in-Err : goal.returns-in-Err
returns-in-Err c = unread_shown c.args.text.now c.in-Err.ensures.cases.0
