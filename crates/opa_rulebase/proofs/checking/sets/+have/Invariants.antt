use Rattle.std.proofs.Common.{length}
use Rattle.opa_rulebase.proofs.checking.sets.+have.Given as goal

abbrev pub decreases-have : goal.decreases-have
decreases-have l = length l.kinds.now
