use Rattle.std.proofs.Common.{◌≡◌, List, ◌∙◌, sym, subst}
use Rattle.std.proofs.lemmas.Result.{on_ok_weaker}
use Rattle.opa_case.specs.Shapes.{shape_of}
use Rattle.opa_line.proofs.Zipping.{ok_weaker}
use Rattle.opa_mean.specs.Holding.{held_look}
use Rattle.opa_code.specs.Codes.{code}
use Rattle.opa_code.specs.Keeping.{AreRight}
use Rattle.opa_code.specs.Runnable.{CanRun}
use Rattle.opa_code.specs.declared.node.Node.{Node}
use Rattle.opa_code.proofs.TreeLines.{held_left}
use Rattle.opa_code.proofs.lines_of_members.MemberLines.at.Goals as goal

pub left_among-requires : goal.left_among-requires
left_among-requires g c =
    let l = held_look (g.H.Held.rules c.args.held.now) (g.H.Held.held c.args.held.now) in
    subst (λ (ns : List Node). AreRight l ns c.args.self.now.kept.lines.items) (sym c.as_slice-nodes.ensures) c.requires.of.kept

pub returns-then-can_run-clause-line : goal.returns-then-can_run-clause-line
returns-then-can_run-clause-line g c =
    let r = g.H.Held.rules c.args.held.now in let held = g.H.Held.held c.args.held.now in
    let nodes : List Node = c.as_slice-nodes.result.now in
    let same : nodes ≡ code (shape_of r.model) c.args.tree.now = c.as_slice-nodes.ensures ∙ c.requires.of.nodes in
    let can : CanRun nodes = sym c.can_run.ensures ∙ c.if-can_run.true in
    ok_weaker c.left_among.result _ _ (λ line h. held_left r held c.case-case.ensures.fits c.args.tree.now c.args.enclosing.now c.requires.live nodes same can line h) c.left_among.ensures.left

pub returns-then-can_run-clause-stay : goal.returns-then-can_run-clause-stay
returns-then-can_run-clause-stay g c =
    let l = held_look (g.H.Held.rules c.args.held.now) (g.H.Held.held c.args.held.now) in
    on_ok_weaker c.left_among.result
    (λ right. record { nodes = c.requires.of.nodes; kept = subst (λ (ns : List Node). AreRight l ns c.left_among.new.kept.lines.items) c.as_slice-nodes.ensures right })
    c.left_among.ensures.right
