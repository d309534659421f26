use Rattle.std.proofs.Common.{◌≡◌, ◌++◌, map, length}
use Rattle.opa_decl.specs.Lists.{shown}
use Rattle.opa_decl.specs.Seen.{seen}
use Rattle.opa_decl.proofs.lists.all_shown.Given as goal

abbrev pub invariant-loop-name : goal.invariant-loop-name
invariant-loop-name l = l.items ++ map (shown (seen l.tables)) l.rest ≡ map (shown (seen l.tables)) l.names

abbrev pub decreases-loop-name : goal.decreases-loop-name
decreases-loop-name l = length l.rest
