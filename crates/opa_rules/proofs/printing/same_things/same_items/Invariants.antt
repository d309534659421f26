use Rattle.std.proofs.Common.{◌≡◌, length}
use Rattle.opa_rules.proofs.printing.same_things.same_items.Given as goal

abbrev pub invariant-loop-item : goal.invariant-loop-item
invariant-loop-item l = l.rest ≡ l.more → l.items ≡ l.others

abbrev pub decreases-loop-item : goal.decreases-loop-item
decreases-loop-item l = length l.rest
