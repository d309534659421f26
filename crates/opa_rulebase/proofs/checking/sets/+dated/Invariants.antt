use Rattle.std.proofs.Common.{length}
use Rattle.opa_rulebase.proofs.checking.sets.+dated.Given as goal

abbrev pub decreases-dated : goal.decreases-dated
decreases-dated l = length l.dates.now
