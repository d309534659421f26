use Rattle.std.proofs.Common.{refl}
use Rattle.std.proofs.lemmas.Result.{on_ok_weaker}
use Rattle.opa_need.proofs.OpeningLaws.{adds_closed, adds_open}
use Rattle.opa_need.proofs.parting.add_valued.Goals as goal

pub returns-then-open : goal.returns-then-open
returns-then-open g c =
    let r = g.H.Held.rules c.args.held.now in let held = g.H.Held.held c.args.held.now in
    on_ok_weaker c.add_tree.result (λ h. adds_open r held c.args.part.now c.args.enclosing.now c.args.day c.args.value.now c.is_unknown-open.result _ _ c.if-open.true c.is_unknown-open.ensures c.requires.value h) c.add_tree.ensures

pub returns-else-open : goal.returns-else-open
returns-else-open g c =
    let r = g.H.Held.rules c.args.held.now in let held = g.H.Held.held c.args.held.now in
    adds_closed r held c.args.part.now c.args.enclosing.now c.args.day c.args.value.now c.is_unknown-open.result _ _ c.if-open.false c.is_unknown-open.ensures c.requires.value refl
