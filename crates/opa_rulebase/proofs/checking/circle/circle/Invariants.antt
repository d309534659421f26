use Rattle.opa_rulebase.proofs.checking.WalkLaws.{Walks, unvisited_count}
use Rattle.opa_rulebase.proofs.checking.circle.circle.Given as goal

abbrev pub invariant-loop-visited : goal.invariant-loop-visited
invariant-loop-visited l = Walks l.rules l.ranks l.fn.start l.walk l.at l.visited.items

abbrev pub decreases-loop-visited : goal.decreases-loop-visited
decreases-loop-visited l = unvisited_count l.visited.items
