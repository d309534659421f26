use Rattle.opa_line.proofs.Zipping.{ok_weaker}
use Rattle.opa_need.proofs.LastingLaws.{lasting_at}
use Rattle.opa_need.proofs.lasting.noted_until.Goals as goal

pub returns-then-is_of : goal.returns-then-is_of
returns-then-is_of g c =
    let r = g.H.Held.rules c.args.held.now in let k = g.H.Held.held c.args.held.now in
    let same = c.is_of.ensures c.if-is_of.true in
    ok_weaker c.until_at.result _ _ (λ o h. lasting_at r k c.args.noted.now c.loop-one.one-index c.one-item.result c.args.tree.now c.args.enclosing.now c.args.day o c.loop-one-test.true c.one-item.is same.0 same.1 h) c.until_at.ensures
