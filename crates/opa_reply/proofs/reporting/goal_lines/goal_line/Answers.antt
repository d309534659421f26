use Rattle.std.proofs.Common.{◌∙◌, ap}
use Rattle.opa_cells.specs.Instances.{global}
use Rattle.opa_case.specs.Shapes.{attribute_or}
use Rattle.opa_mean.proofs.goals.Knowing.{same_goal}
use Rattle.opa_reply.specs.Reporting.Goals.{state_line, goal_line}
use Rattle.opa_reply.specs.Reporting.Shown.{told_line}
use Rattle.opa_reply.proofs.reporting.goal_lines.goal_line.Goals as goal

pub returns : goal.returns
returns g c = λ a there.
    let r = g.H.Held.rules c.args.held.now in let held = g.H.Held.held c.args.held.now in
    let b = c.goal_of-attr.result in
    c.in_ok-line.ensures
    ∙ ap (λ p. state_line p c.in_ok-what.what c.goal_state-state.result) c.phrase_of-phrase.ensures
    ∙ ap (λ t. state_line (attribute_or r.model b).phrase t c.goal_state-state.result) (c.in_ok-what.ensures ∙ ap (told_line r held b) c.requires.global)
    ∙ ap (λ s. state_line (attribute_or r.model b).phrase (told_line r held b global) s) (c.goal_state-state.ensures.state b c.goal_of-attr.ensures.goal)
    ∙ ap (goal_line r held) (same_goal b a _ c.goal_of-attr.ensures.goal there)
