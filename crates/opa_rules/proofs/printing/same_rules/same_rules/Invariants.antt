use Rattle.std.proofs.Common.{◌≡◌, length, map}
use Rattle.opa_rules.specs.Printing.Same.{said}
use Rattle.opa_rules.proofs.printing.same_rules.same_rules.Given as goal

abbrev pub invariant-loop-rule : goal.invariant-loop-rule
invariant-loop-rule l = map said l.rest ≡ map said l.more → map said l.rules ≡ map said l.others

abbrev pub decreases-loop-rule : goal.decreases-loop-rule
decreases-loop-rule l = length l.rest
