use Rattle.std.proofs.Common.{ℕ, List, length}
use Rattle.opa_verify.proofs.spelling.Spotted.{Unquoted}
use Rattle.opa_verify.proofs.spelling.cuts.at_quote.Given as goal

abbrev pub invariant-loop-byte : goal.invariant-loop-byte
invariant-loop-byte l = (front : List ℕ) × Unquoted l.text front l.rest l.count

abbrev pub decreases-loop-byte : goal.decreases-loop-byte
decreases-loop-byte l = length l.rest
