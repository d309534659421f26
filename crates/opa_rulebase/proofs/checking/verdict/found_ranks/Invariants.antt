use Rattle.std.proofs.Common.{◌≡◌, map, take}
use Rattle.std.specs.Prelude.{unwrap_or}
use Rattle.opa_rulebase.proofs.checking.verdict.found_ranks.Given as goal

abbrev pub invariant-loop-rank : goal.invariant-loop-rank
invariant-loop-rank l = l.found ≡ map (λ r. unwrap_or r 0) (take l.rank-index l.ranks)
