use Rattle.std.proofs.Common.{length}
use Rattle.opa_verify.proofs.spelling.Namely.{AreLeft}
use Rattle.opa_verify.proofs.spelling.names.are_names.Given as goal

abbrev pub invariant-loop-name : goal.invariant-loop-name
invariant-loop-name l = AreLeft l.fn.names l.rest

abbrev pub decreases-loop-name : goal.decreases-loop-name
decreases-loop-name l = length l.rest
