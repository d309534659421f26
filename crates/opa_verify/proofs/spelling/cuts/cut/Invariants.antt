use Rattle.std.proofs.Common.{ℕ, List, length}
use Rattle.opa_verify.proofs.spelling.Cutting.{Passed}
use Rattle.opa_verify.proofs.spelling.cuts.cut.Given as goal

abbrev pub invariant-loop-byte : goal.invariant-loop-byte
invariant-loop-byte l = (front : List ℕ) × Passed l.text front l.rest l.inside l.count

abbrev pub decreases-loop-byte : goal.decreases-loop-byte
decreases-loop-byte l = length l.rest
