use Rattle.std.proofs.Common.{◌≡◌, take}
use Rattle.opa_verify.proofs.listed.alike.with_entity.Given as goal

abbrev pub invariant-loop-other : goal.invariant-loop-other
invariant-loop-other l = l.inner ≡ take l.other-index l.hidden
