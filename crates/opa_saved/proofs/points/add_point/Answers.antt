use Rattle.std.proofs.Common.{ap, ◌∙◌, Some, cond}
use Rattle.std.specs.Prelude.{is_some}
use Rattle.std.specs.BTreeMap as tree
use Rattle.std.specs.Ordering.{is_eq}
use Rattle.opa_saved.specs.Forms.{point_cmp}
use Rattle.opa_saved.proofs.HomeLaws.{point_added}
use Rattle.opa_saved.proofs.points.add_point.Goals as goal

pub returns : goal.returns
returns c q =
    let old = tree.get point_cmp c.args.later.now q in
    ap is_some (c.in_ok-insert.ensures.updates.0 q)
    ∙ ap (λ k. is_some (cond (is_eq (point_cmp k q)) (Some tt) old)) c.in_ok-key.ensures
    ∙ point_added c.args.point.now q tt old
