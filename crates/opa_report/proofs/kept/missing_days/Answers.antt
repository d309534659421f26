use Rattle.opa_line.proofs.Zipping.{ok_weaker}
use Rattle.opa_report.proofs.Keeping.{missing_among}
use Rattle.opa_report.proofs.kept.missing_days.Goals as goal

pub returns-then-same_tree : goal.returns-then-same_tree
returns-then-same_tree g c =
    let s = g.S.Sight.shape c.args.sight.now in let l = g.S.Sight.look c.args.sight.now in
    ok_weaker c.missing_of.result _ _ (λ missing m. missing_among s l c.args.kept.now c.loop-one.one-index c.one-item.result c.args.tree.now c.args.enclosing.now c.args.days.now missing c.loop-one-test.true c.one-item.is (m (c.same_tree.ensures.0 c.if-same_tree.true))) c.missing_of.ensures
