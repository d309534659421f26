use Rattle.std.proofs.Common.{ℕ, List, length}
use Rattle.opa_verify.proofs.spelling.Lining.{Unended}
use Rattle.opa_verify.proofs.spelling.lines.first_line.Given as goal

abbrev pub invariant-loop-byte : goal.invariant-loop-byte
invariant-loop-byte l = (front : List ℕ) × Unended l.text front l.rest l.count

abbrev pub decreases-loop-byte : goal.decreases-loop-byte
decreases-loop-byte l = length l.rest
