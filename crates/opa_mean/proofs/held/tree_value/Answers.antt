use Rattle.std.proofs.Common.{◌≡◌, IfOk, subst}
use Rattle.opa_case.specs.Shapes.{shape_of}
use Rattle.opa_tree.specs.declared.rulebase.Rulebase.{Rulebase}
use Rattle.opa_mean.specs.Holding.{held_look}
use Rattle.opa_mean.specs.Meaning.{value}
use Rattle.opa_mean.proofs.Holdings.{held_answer}
use Rattle.opa_mean.proofs.held.tree_value.Goals as goal

pub returns : goal.returns
returns g c =
    let r = g.H.Held.rules c.args.held.now in let held = g.H.Held.held c.args.held.now in
    held_answer r held c.args.expr.now c.args.enclosing.now c.as_slice.result.now c.args.day c.looked_value.result c.case-case.ensures.fits c.requires.day c.requires.live c.as_slice.ensures
    (subst (λ (b : Rulebase). IfOk c.looked_value.result (λ v. v ≡ value (shape_of b.model) (held_look r held) c.args.expr.now c.as_slice.result.now c.args.day)) c.base.ensures c.looked_value.ensures)
