use Rattle.opa_verify.proofs.spelling.Daying.{no_to, no_last_behind}
use Rattle.opa_verify.proofs.spelling.days.first_day_in.Goals as goal

pub returns-in-None-past : goal.returns-in-None-past
returns-in-None-past c = no_to c.args.days.now c.in-Some.rest.now c.in-Some.first c.in-Some.ensures c.in-None-past.ensures

pub returns-in-None-last_day_in : goal.returns-in-None-last_day_in
returns-in-None-last_day_in c = no_last_behind c.args.days.now c.in-Some.rest.now c.in-Some-past.rest.now c.in-Some.first c.in-Some.ensures c.in-Some-past.ensures c.in-None-last_day_in.ensures
