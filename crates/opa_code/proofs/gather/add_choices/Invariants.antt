use Rattle.std.proofs.Common.{◌≡◌, ◌≤◌, ◌-◌, ◌++◌, reverse, replicate}
use Rattle.opa_code.specs.declared.node.Node.TheVariants as node
use Rattle.opa_code.proofs.gather.add_choices.Given as goal

abbrev pub invariant-loop-row : goal.invariant-loop-row
invariant-loop-row l = (reverse l.nodes ≡ replicate l.row node.Choose ++ reverse l.initial.nodes) × (l.row ≤ l.rows)

abbrev pub decreases-loop-row : goal.decreases-loop-row
decreases-loop-row l = l.rows - l.row
