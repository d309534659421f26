use Rattle.std.proofs.Common.{◌≡◌, take}
use Rattle.opa_verify.proofs.verdict.naming.copied.Given as goal

abbrev pub invariant-loop-name : goal.invariant-loop-name
invariant-loop-name l = l.all ≡ take l.name-index l.names
