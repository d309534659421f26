use Rattle.std.proofs.Common.{reverse}
use Rattle.opa_need.specs.declared.steps.Step.TheVariants as step
use Rattle.opa_need.proofs.Noting.{behind_tree}
use Rattle.opa_need.proofs.Pursuing.{dropped}
use Rattle.opa_need.proofs.passing.begin.Goals as goal

pub returns-then-branch : goal.returns-then-branch
returns-then-branch g c total found runs right =
    let r = g.H.Held.rules c.args.held.now in let held = g.H.Held.held c.args.held.now in
    dropped r held total found runs (step.Tree c.args.tree c.args.enclosing.now c.args.day) (reverse c.args.steps.now) (c.in_ok-is_noted.ensures c.if-branch.true found right.noted) right.way

pub returns : goal.returns
returns g c total found runs right =
    let r = g.H.Held.rules c.args.held.now in let held = g.H.Held.held c.args.held.now in
    behind_tree r held total found runs c.args.tree c.args.enclosing.now c.in_ok-behind.behind c.args.day c.args.steps.now _ c.in_ok-behind.ensures c.in_ok-push.ensures.ok right.way
