use Rattle.std.proofs.Common.{length}
use Rattle.opa_verify.proofs.spelling.Cutting.{Alike}
use Rattle.opa_verify.proofs.spelling.cuts.past_bytes.Given as goal

abbrev pub invariant-loop-byte : goal.invariant-loop-byte
invariant-loop-byte l = Alike l.fn.text l.fn.first l.rest l.want

abbrev pub decreases-loop-byte : goal.decreases-loop-byte
decreases-loop-byte l = length l.want
