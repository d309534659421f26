use Rattle.std.proofs.Common.{◌≡◌, length}
use Rattle.opa_rules.specs.Faults.Nearest.{past_same}
use Rattle.opa_rules.proofs.faults.nearest.past_front.Given as goal

abbrev pub invariant-loop-more : goal.invariant-loop-more
invariant-loop-more l = past_same l.first l.second ≡ past_same l.left l.right

abbrev pub decreases-loop-more : goal.decreases-loop-more
decreases-loop-more l = length l.first
