use Rattle.std.proofs.Common.{◌∙◌, sym, ap, subst}
use Rattle.opa_mean.specs.Goals.States.{IsStateOf, goal_state}
use Rattle.opa_mean.proofs.goals.Knowing.{states_exact, stays_settled, same_goal}
use Rattle.opa_mean.proofs.goals.states.goal_state.Goals as goal

pub returns-clause-exact : goal.returns-clause-exact
returns-clause-exact g c = λ a there.
    let r = g.H.Held.rules c.args.held.now in let held = g.H.Held.held c.args.held.now in
    let one = same_goal c.goal_of-attr.result a _ c.goal_of-attr.ensures.goal there in
    subst (IsStateOf r held a) (sym (c.state_of-state.ensures ∙ ap (goal_state r held) one)) (states_exact r held a)

pub returns-clause-stays : goal.returns-clause-stays
returns-clause-stays g c = λ a there.
    let r = g.H.Held.rules c.args.held.now in let held = g.H.Held.held c.args.held.now in
    let one = same_goal c.goal_of-attr.result a _ c.goal_of-attr.ensures.goal there in
    stays_settled r held c.monotone.ensures a c.state_of-state.result (c.state_of-state.ensures ∙ ap (goal_state r held) one)
