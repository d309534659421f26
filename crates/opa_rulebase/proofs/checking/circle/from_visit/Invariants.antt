use Rattle.std.proofs.Common.{◌≡◌, length}
use Rattle.opa_rulebase.specs.Checking.Circles.{from_visit}
use Rattle.opa_rulebase.proofs.checking.circle.from_visit.Given as goal

abbrev pub invariant-loop-attr : goal.invariant-loop-attr
invariant-loop-attr l = from_visit l.at l.rest ≡ from_visit l.at l.walk

abbrev pub decreases-loop-attr : goal.decreases-loop-attr
decreases-loop-attr l = length l.rest
