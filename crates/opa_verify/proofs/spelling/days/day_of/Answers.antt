use Rattle.opa_verify.proofs.spelling.Daying.{unread_day}
use Rattle.opa_verify.proofs.spelling.days.day_of.Goals as goal

pub returns-in-Err : goal.returns-in-Err
returns-in-Err c = unread_day c.args.date.now c.in-Err.ensures.cases.0
