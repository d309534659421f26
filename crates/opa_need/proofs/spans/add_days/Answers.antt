use Rattle.std.proofs.lemmas.Result.{on_ok_weaker}
use Rattle.opa_need.proofs.OpeningLaws.{some_days}
use Rattle.opa_need.proofs.spans.add_days.Goals as goal

pub returns-in_ok-again-in-Some-date_of : goal.returns-in_ok-again-in-Some-date_of
returns-in_ok-again-in-Some-date_of g c =
    let r = g.H.Held.rules c.args._held.now in let held = g.H.Held.held c.args._held.now in
    on_ok_weaker c.push.result (λ e. some_days r held c.args.x c.args.enclosing.now c.in_ok-again-in-Some-date_of.field-0 c.args.start.now c.args.end.now c.in-Some.first c.in-Some-date_of.last _ _ c.in-Some.ensures c.in-Some-date_of.ensures c.in_ok-again-in-Some-date_of.ensures c.requires.live e) c.push.ensures.ok
