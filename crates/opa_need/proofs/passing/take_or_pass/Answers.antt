use Rattle.std.proofs.Common.{Bool, ◌∷◌, refl, reverse, subst}
use Rattle.std.specs.Prelude.{if◌then◌else◌}
use Rattle.opa_need.specs.Steps.{IsOnTheWay, tree_needs}
use Rattle.opa_need.specs.declared.steps.Step.TheVariants as step
use Rattle.opa_need.proofs.Pursuing.{put_steps}
use Rattle.opa_need.proofs.passing.take_or_pass.Goals as goal

pub returns-then-passed : goal.returns-then-passed
returns-then-passed g c total found runs right =
    let r = g.H.Held.rules c.args.held.now in let held = g.H.Held.held c.args.held.now in
    subst (λ (b : Bool). IsOnTheWay r held total found runs (if b then reverse c.begin.new.steps else step.Tree c.args.tree c.args.enclosing.now c.args.day ∷ reverse c.begin.new.steps)) c.if-passed.true (c.in_ok-passed.ensures total found runs right)

pub returns : goal.returns
returns g c total found runs right =
    let r = g.H.Held.rules c.args.held.now in let held = g.H.Held.held c.args.held.now in
    put_steps r held found runs (step.Tree c.args.tree c.args.enclosing.now c.args.day) (tree_needs r held c.args.tree.now c.args.enclosing.now c.args.day) c.begin.new.steps c.take_tree.new.steps refl c.in_ok-take_tree.ensures total
    (subst (λ (b : Bool). IsOnTheWay r held total found runs (if b then reverse c.begin.new.steps else step.Tree c.args.tree c.args.enclosing.now c.args.day ∷ reverse c.begin.new.steps)) c.if-passed.false (c.in_ok-passed.ensures total found runs right))
