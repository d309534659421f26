use Rattle.std.proofs.lemmas.Result.{on_ok_weaker}
use Rattle.opa_need.proofs.OpeningLaws.{span_three}
use Rattle.opa_need.proofs.spans.add_between.Goals as goal

pub returns : goal.returns
returns g c =
    let r = g.H.Held.rules c.args.held.now in let held = g.H.Held.held c.args.held.now in
    on_ok_weaker c.add_days.result (λ h. span_three r held c.args.start.now c.args.end.now c.args.x.now c.args.enclosing.now c.args.day c.in_ok-first.first c.in_ok-last.last _ _ _ _ c.in_ok-first.ensures c.in_ok-last.ensures c.in_ok-add_valued.ensures c.in_ok-add_valued-2.ensures h) c.add_days.ensures
