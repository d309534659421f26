use Rattle.opa_mean.specs.Goals.States.{is_known}
use Rattle.opa_mean.proofs.goals.Knowing.{AreFoundFrom}
use Rattle.opa_mean.proofs.goals.states.open_goal.Given as goal

-- the goals before are known
abbrev pub invariant-loop-number : goal.invariant-loop-number
invariant-loop-number g l = AreFoundFrom (is_known (g.H.Held.rules l.held) (g.H.Held.held l.held)) (g.H.Held.rules l.held).model.goals l.number
