use Rattle.std.proofs.Common.{◌≡◌, true, replicate}
use Rattle.opa_mean.proofs.goals.ranks.all_free.Given as goal

abbrev pub invariant-loop : goal.invariant-loop
invariant-loop l = l.free.items ≡ replicate l.counter true
