use Rattle.std.proofs.Common.{◌≡◌, ◌&&◌, false, map, length}
use Rattle.opa_tree.specs.Kinds.{typed, all_can}
use Rattle.opa_rulebase.specs.Checking.KindSets.{has, typing_of}
use Rattle.opa_rulebase.proofs.checking.sets.meet.Given as goal

abbrev pub invariant-loop-set : goal.invariant-loop-set
invariant-loop-set l = (l.kinds.is_decimals ≡ false) × (typed (λ k. has l.kinds k && all_can (map typing_of l.rest) k) ≡ typed (all_can (map typing_of l.sets)))

abbrev pub decreases-loop-set : goal.decreases-loop-set
decreases-loop-set l = length l.rest
