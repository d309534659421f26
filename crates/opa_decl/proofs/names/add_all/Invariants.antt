use Rattle.std.proofs.Common.{◌≡◌, ◌++◌, length}
use Rattle.opa_decl.proofs.names.add_all.Given as goal

abbrev pub invariant-loop-name : goal.invariant-loop-name
invariant-loop-name l = l.names ++ l.rest ≡ l.fn.names ++ l.more

abbrev pub decreases-loop-name : goal.decreases-loop-name
decreases-loop-name l = length l.rest
