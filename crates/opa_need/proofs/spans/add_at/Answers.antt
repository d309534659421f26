use Rattle.std.proofs.lemmas.Result.{on_ok_weaker}
use Rattle.opa_need.proofs.OpeningLaws.{span_two}
use Rattle.opa_need.proofs.spans.add_at.Goals as goal

pub returns : goal.returns
returns g c =
    let r = g.H.Held.rules c.args.held.now in let held = g.H.Held.held c.args.held.now in
    on_ok_weaker c.add_on.result (λ h. span_two r held c.args.date.now c.args.x.now c.args.enclosing.now c.args.day c.in_ok-value.value _ _ _ c.in_ok-value.ensures c.in_ok-add_valued.ensures h) c.add_on.ensures
