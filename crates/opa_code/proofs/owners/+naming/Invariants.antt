use Rattle.std.proofs.Common.{◌≤◌, ◌+◌, ◌*◌, length}
use Rattle.opa_code.specs.Mentions.{AreFound}
use Rattle.opa_code.proofs.owners.+naming.Given as goal

abbrev pub decreases-owners_in : goal.decreases-owners_in
decreases-owners_in l = 4 * length l.nodes.now

abbrev pub decreases-add_owners : goal.decreases-add_owners
decreases-add_owners l = 4 * length l.after.now + 3

abbrev pub decreases-add_over : goal.decreases-add_over
decreases-add_over l = 4 * length l.operand.now + 1

-- what the nodes mention is there, or is mentioned by those that are left
abbrev pub invariant-owners_in-loop-node : goal.invariant-owners_in-loop-node
invariant-owners_in-loop-node l = AreFound l.fn.nodes l.owners l.rest × (length l.rest ≤ length l.fn.nodes)

abbrev pub decreases-owners_in-loop-node : goal.decreases-owners_in-loop-node
decreases-owners_in-loop-node l = length l.rest
