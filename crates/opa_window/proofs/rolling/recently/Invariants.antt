use Rattle.std.proofs.Common.{length}
use Rattle.opa_value.specs.declared.value.Value.TheVariants as value
use Rattle.opa_window.specs.Marks.{has_mark}
use Rattle.opa_window.proofs.Seen.{Going}
use Rattle.opa_window.proofs.rolling.recently.Given as goal

abbrev pub invariant-loop-rest : goal.invariant-loop-rest
invariant-loop-rest l = Going (has_mark l.mark) value.Unknown l.days l.fn.x l.rest l.fades l.out

abbrev pub decreases-loop-rest : goal.decreases-loop-rest
decreases-loop-rest l = length l.rest
