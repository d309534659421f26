use Rattle.opa_rulebase.specs.Checking.Found.{AreFound}
use Rattle.opa_rulebase.proofs.checking.ranks.Ranking.take_in.Given as goal

abbrev pub invariant-loop-place : goal.invariant-loop-place
invariant-loop-place l = AreFound l.uses l.self.ranks.items l.self.taken
