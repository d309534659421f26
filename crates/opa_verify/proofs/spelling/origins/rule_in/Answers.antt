use Rattle.opa_verify.proofs.spelling.Placed.{unread_place}
use Rattle.opa_verify.proofs.spelling.origins.rule_in.Goals as goal

pub returns-in-Err : goal.returns-in-Err
returns-in-Err c = unread_place c.args.text.now c.args.place.now c.requires c.in-Err.ensures.cases.0
