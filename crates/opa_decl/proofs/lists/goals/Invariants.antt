use Rattle.std.proofs.Common.{◌≡◌, ◌++◌, map, length}
use Rattle.opa_decl.specs.Lists.{goal_by}
use Rattle.opa_decl.specs.Seen.{seen}
use Rattle.opa_decl.proofs.lists.goals.Given as goal

abbrev pub invariant-loop-name : goal.invariant-loop-name
invariant-loop-name l = l.list ++ map (goal_by (seen l.tables)) l.rest ≡ map (goal_by (seen l.tables)) l.names

abbrev pub decreases-loop-name : goal.decreases-loop-name
decreases-loop-name l = length l.rest
