use Rattle.std.proofs.Common.{[], List, subst}
use Rattle.opa_cells.specs.declared.instance.InstanceId.{InstanceId}
use Rattle.opa_verify.specs.Listed.Keeping.{Agrees}
use Rattle.opa_verify.proofs.listed.Keeping.{stands_again}
use Rattle.opa_verify.proofs.listed.kept.line_again.Goals as goal

pub returns-in_ok-line : goal.returns-in_ok-line
returns-in_ok-line g c =
    let s = g.K.Sheet.shape c.args.sheet.now in let k = g.K.Sheet.listing c.args.sheet.now in
    λ same kept. stands_again s k c.args.one.now c.args.tree.now c.args.enclosing.now c.in_ok-line.line same
    (subst (λ (e : List InstanceId). Agrees s k [] e c.args.enclosing.now c.args.tree.now) c.as_slice.ensures (c.in_ok-is_alike.ensures c.if-branch.true)) kept c.in_ok-line.ensures
