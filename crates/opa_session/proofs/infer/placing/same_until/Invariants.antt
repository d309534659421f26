use Rattle.std.proofs.Common.{◌-◌, length}
use Rattle.opa_session.proofs.infer.placing.same_until.Given as goal

abbrev pub decreases-loop-at : goal.decreases-loop-at
decreases-loop-at l = length l.names - l.at
