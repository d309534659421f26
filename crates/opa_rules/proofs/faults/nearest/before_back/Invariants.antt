use Rattle.std.proofs.Common.{◌≡◌, length, reverse}
use Rattle.opa_rules.specs.Faults.Nearest.{past_same}
use Rattle.opa_rules.proofs.faults.nearest.before_back.Given as goal

abbrev pub invariant-loop-more : goal.invariant-loop-more
invariant-loop-more l = past_same (reverse l.first) (reverse l.second) ≡ past_same (reverse l.left) (reverse l.right)

abbrev pub decreases-loop-more : goal.decreases-loop-more
decreases-loop-more l = length l.first
