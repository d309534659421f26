use Rattle.opa_line.proofs.Zipping.{ok_weaker}
use Rattle.opa_verify.proofs.listed.Keeping.{kept_among}
use Rattle.opa_verify.proofs.listed.kept.kept_line.Goals as goal

pub returns-then-same_tree : goal.returns-then-same_tree
returns-then-same_tree g c =
    let s = g.K.Sheet.shape c.args.sheet.now in let k = g.K.Sheet.listing c.args.sheet.now in
    ok_weaker c.line_again.result _ _ (λ found h known. h (c.same_tree.ensures.0 c.if-same_tree.true) (kept_among s k c.args.kept.now c.loop-one.one-index c.one-item.result c.loop-one-test.true c.one-item.is known)) c.line_again.ensures
