use Rattle.std.proofs.Common.{◌≡◌, ◌+◌, length}
use Rattle.opa_io.proofs.files.read_at_most.Given as goal

-- what was read, and what may still be read
abbrev pub invariant-loop : goal.invariant-loop
invariant-loop g l = length l.bytes.items + l.left ≡ l.most
