use Rattle.std.proofs.Common.{◌≡◌, map, length}
use Rattle.opa_rulebase.specs.Checking.Found.{rank_found, higher, highest_found}
use Rattle.opa_rulebase.proofs.checking.ranks.highest_found.Given as goal

abbrev pub invariant-loop-attr : goal.invariant-loop-attr
invariant-loop-attr l = higher l.best (highest_found (map (rank_found l.ranks) l.rest)) ≡ highest_found (map (rank_found l.ranks) l.mentioned)

abbrev pub decreases-loop-attr : goal.decreases-loop-attr
decreases-loop-attr l = length l.rest
