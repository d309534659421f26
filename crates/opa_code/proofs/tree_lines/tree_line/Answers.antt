use Rattle.std.proofs.Common.{◌≡◌, List, ◌∙◌, ap, sym, subst}
use Rattle.opa_cells.specs.declared.instance.InstanceId.{InstanceId}
use Rattle.opa_case.specs.Shapes.{shape_of}
use Rattle.opa_line.proofs.Zipping.{ok_weaker}
use Rattle.opa_tree.specs.declared.rulebase.Rulebase.{Rulebase}
use Rattle.opa_mean.specs.Holding.{held_look}
use Rattle.opa_code.specs.Codes.{code}
use Rattle.opa_code.specs.Fresh.{IsLeft}
use Rattle.opa_code.specs.Runnable.{CanRun}
use Rattle.opa_code.specs.declared.node.Node.{Node}
use Rattle.opa_code.proofs.TreeLines.{held_left}
use Rattle.opa_code.proofs.tree_lines.tree_line.Goals as goal

pub returns-then-can_run : goal.returns-then-can_run
returns-then-can_run g c =
    let r = g.H.Held.rules c.args.held.now in let held = g.H.Held.held c.args.held.now in
    let nodes : List Node = c.in_ok-nodes.nodes in
    let same : nodes ≡ code (shape_of r.model) c.args.tree.now = c.in_ok-nodes.ensures ∙ ap (λ (b : Rulebase). code (shape_of b.model) c.args.tree.now) c.base.ensures in
    let can : CanRun nodes = subst CanRun c.as_slice.ensures (sym c.can_run.ensures ∙ c.if-can_run.true) in
    ok_weaker c.left_line.result _ _
    (λ line h. held_left r held c.case-case.ensures.fits c.args.tree.now c.args.enclosing.now c.requires nodes same can line
    (subst (λ (es : List InstanceId). IsLeft (held_look r held) es nodes line) c.as_slice-then-can_run-2.ensures
    (subst (λ (ns : List Node). IsLeft (held_look r held) c.as_slice-then-can_run-2.result.now ns line) c.as_slice-then-can_run.ensures h))) c.left_line.ensures
