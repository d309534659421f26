use Rattle.std.specs.String.{string_bytes}
use Rattle.opa_reply.specs.Reporting.Goals.{goal_line}
use Rattle.opa_reply.proofs.reporting.Goals.{AreUpTo}
use Rattle.opa_reply.proofs.reporting.goal_lines.goals_told.Given as goal

-- the lines of the goals before
abbrev pub invariant-loop-goal : goal.invariant-loop-goal
invariant-loop-goal g l = AreUpTo (goal_line (g.H.Held.rules l.held) (g.H.Held.held l.held)) (g.H.Held.rules l.held).model.goals l.goal (string_bytes l.out)
