use Rattle.std.proofs.Common.{◌≡◌, ◌==◌}
use Rattle.std.specs.List.{list_any}
use Rattle.opa_tree.specs.Scopes.{lineage}
use Rattle.opa_rulebase.proofs.checking.scopes.is_above.Given as goal

abbrev pub invariant-loop-at : goal.invariant-loop-at
invariant-loop-at l = list_any (λ j. j.0 == l.wanted.0) (lineage l.model l.steps l.fn.entity) ≡ list_any (λ j. j.0 == l.wanted.0) (lineage l.model l.left l.at)

abbrev pub decreases-loop-at : goal.decreases-loop-at
decreases-loop-at l = l.left
