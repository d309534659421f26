use Rattle.std.proofs.Common.{◌≡◌, ◌++◌, ◌<◌, length, rules}
use Rattle.std.specs.String.{string_bytes}
use Rattle.opa_reply.specs.Reporting.Goals.{goal_line}
use Rattle.opa_reply.proofs.reporting.Goals.{more_told}
use Rattle.opa_reply.proofs.reporting.goal_lines.goals_told.Goals as goal

pub loop-goal-preserved : goal.loop-goal-preserved
loop-goal-preserved g c =
    let r = g.H.Held.rules c.args.held.now in let held = g.H.Held.held c.args.held.now in
    let within : c.loop-goal.goal < length r.model.goals = search rules in
    let grown : string_bytes c.push_str.new.self ≡ string_bytes c.loop-goal.out ++ c.in_ok-line.line = search rules in
    more_told (goal_line r held) r.model.goals c.loop-goal.goal (string_bytes c.loop-goal.out) c.in_ok-line.line (string_bytes c.push_str.new.self) within c.in_ok-line.ensures grown c.loop-goal.invariant
