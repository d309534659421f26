use Rattle.std.proofs.Common.{length}
use Rattle.opa_value.specs.declared.value.Value.TheVariants as value
use Rattle.opa_window.specs.Windows as meant
use Rattle.opa_window.proofs.Stretching.{Stretching}
use Rattle.opa_window.proofs.dates.before.Given as goal

abbrev pub invariant-loop-rest : goal.invariant-loop-rest
invariant-loop-rest l = Stretching meant.before value.Unknown l.fn.date l.rest l.out

abbrev pub decreases-loop-rest : goal.decreases-loop-rest
decreases-loop-rest l = length l.rest
