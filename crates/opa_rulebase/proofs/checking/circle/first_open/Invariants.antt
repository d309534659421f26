use Rattle.std.proofs.Common.{◌≡◌, length, not}
use Rattle.std.specs.Prelude.{find, is_some}
use Rattle.opa_rulebase.specs.Checking.Found.{rank_found}
use Rattle.opa_rulebase.proofs.checking.circle.first_open.Given as goal

abbrev pub invariant-loop-attr : goal.invariant-loop-attr
invariant-loop-attr l = find (λ b. not (is_some (rank_found l.ranks b))) l.rest ≡ find (λ b. not (is_some (rank_found l.ranks b))) l.mentioned

abbrev pub decreases-loop-attr : goal.decreases-loop-attr
decreases-loop-attr l = length l.rest
