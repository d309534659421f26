use Rattle.opa_line.proofs.Zipping.{ok_weaker}
use Rattle.opa_report.proofs.LinesKept.{line_among}
use Rattle.opa_report.proofs.Promised.{some_weaker}
use Rattle.opa_report.proofs.kept_lines.kept_line.Goals as goal

pub returns-then-same_tree : goal.returns-then-same_tree
returns-then-same_tree g c =
    let s = g.S.Sight.shape c.args.sight.now in let l = g.S.Sight.look c.args.sight.now in
    ok_weaker c.line_if_alike.result _ _ (λ found. some_weaker found _ _ (λ line h are. h (c.same_tree.ensures.0 c.if-same_tree.true) (line_among s l c.args.kept.now c.loop-one.one-index c.one-item.result c.loop-one-test.true c.one-item.is are))) c.line_if_alike.ensures
