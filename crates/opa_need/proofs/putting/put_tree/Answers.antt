use Rattle.std.proofs.lemmas.Result.{on_ok_weaker}
use Rattle.opa_need.proofs.OpeningLaws.{tree_on}
use Rattle.opa_need.proofs.putting.put_tree.Goals as goal

pub returns : goal.returns
returns g c =
    let r = g.H.Held.rules c.args._held.now in let held = g.H.Held.held c.args._held.now in
    on_ok_weaker c.push.result (λ e. tree_on r held c.args.tree c.args.enclosing.now _ c.args.day _ _ c.in_ok-enclosing.ensures c.requires.live c.requires.day e) c.push.ensures.ok
