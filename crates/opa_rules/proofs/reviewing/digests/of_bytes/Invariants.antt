use Rattle.std.proofs.Common.{◌≡◌, take, fold}
use Rattle.opa_rules.specs.Reviewing.Digests.{mixed}
use Rattle.opa_rules.proofs.reviewing.digests.of_bytes.Given as goal

abbrev pub invariant-loop-byte : goal.invariant-loop-byte
invariant-loop-byte l = l.all ≡ fold mixed 5 (take l.byte-index l.bytes)
