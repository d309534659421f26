use Rattle.std.proofs.Common.{◌≡◌, take}
use Rattle.opa_mean.proofs.alike.with_one.Given as goal

abbrev pub invariant-loop-one : goal.invariant-loop-one
invariant-loop-one l = l.all ≡ take l.one-index l.bound
