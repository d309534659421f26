use Rattle.opa_verify.proofs.spelling.Daying.{earlier_last, no_told}
use Rattle.opa_verify.proofs.spelling.days.last_day_in.Goals as goal

pub returns-then-last-first : goal.returns-then-last-first
returns-then-last-first c = earlier_last c.args.first c.args.text.now c.in-Some.rest.now c.in-Some.last c.in-Some.ensures c.if-last-first.true

pub returns-in-None-past : goal.returns-in-None-past
returns-in-None-past c = no_told c.args.first c.args.text.now c.in-Some.rest.now c.in-Some.last c.in-Some.ensures c.in-None-past.ensures
