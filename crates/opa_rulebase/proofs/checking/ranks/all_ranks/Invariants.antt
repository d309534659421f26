use Rattle.std.proofs.Common.{◌-◌, length}
use Rattle.opa_rulebase.specs.Checking.Found.{AreFound}
use Rattle.opa_rulebase.proofs.checking.ranks.all_ranks.Given as goal

abbrev pub invariant-loop : goal.invariant-loop
invariant-loop l = AreFound l.uses l.ranking.ranks.items l.ranking.taken

abbrev pub decreases-loop : goal.decreases-loop
decreases-loop l = length l.uses - l.ranking.taken
