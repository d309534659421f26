use Rattle.std.proofs.Common.{[], subst}
use Rattle.std.specs.Prelude.{List}
use Rattle.opa_cells.specs.declared.instance.InstanceId.{InstanceId}
use Rattle.opa_report.specs.Keeping.{Agrees}
use Rattle.opa_report.proofs.LinesKept.{line_alike}
use Rattle.opa_report.proofs.kept_lines.line_if_alike.Goals as goal

pub returns-in_ok-line : goal.returns-in_ok-line
returns-in_ok-line g c =
    let s = g.S.Sight.shape c.args.sight.now in let l = g.S.Sight.look c.args.sight.now in
    line_alike s l c.args.one.now c.args.tree.now c.args.enclosing.now c.in_ok-line.line
    (subst (λ (e : List InstanceId). Agrees s l [] e c.args.enclosing.now c.args.tree.now) c.as_slice.ensures (c.in_ok-is_alike.ensures c.if-branch.true)) c.in_ok-line.ensures
