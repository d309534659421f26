use Rattle.std.proofs.Common.{◌≡◌, ◌<◌, length}
use Rattle.opa_saved.specs.Digests.{digest_on}
use Rattle.opa_saved.proofs.digest.digest_on.Given as goal

abbrev pub invariant-loop-rest : goal.invariant-loop-rest
invariant-loop-rest l = record {
  same : digest_on l.digest l.rest ≡ digest_on l.fn.start l.fn.bytes;
  bound : l.digest < 4294967296;
}

abbrev pub decreases-loop-rest : goal.decreases-loop-rest
decreases-loop-rest l = length l.rest
