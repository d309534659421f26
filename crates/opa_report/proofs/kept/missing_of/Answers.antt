use Rattle.std.proofs.Common.{[], subst}
use Rattle.opa_cells.specs.declared.instance.InstanceId.{InstanceId}
use Rattle.std.specs.Prelude.{List}
use Rattle.opa_line.proofs.Zipping.{ok_weaker}
use Rattle.opa_report.specs.Keeping.{Agrees}
use Rattle.opa_report.proofs.Keeping.{missing_is}
use Rattle.opa_report.proofs.kept.missing_of.Goals as goal

pub returns-then-branch : goal.returns-then-branch
returns-then-branch g c =
    let s = g.S.Sight.shape c.args.sight.now in let l = g.S.Sight.look c.args.sight.now in
    ok_weaker c.without.result _ _ (λ missing stands same. missing_is s l c.args.one.now c.args.tree.now c.args.enclosing.now c.args.days.now missing same
    (subst (λ (e : List InstanceId). Agrees s l [] e c.args.enclosing.now c.args.tree.now) c.as_slice.ensures (c.in_ok-is_alike.ensures c.if-branch.true)) stands) c.without.ensures
