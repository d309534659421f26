use Rattle.std.proofs.Common.{◌-◌}
use Rattle.opa_window.proofs.Anniversaries.{Counting}
use Rattle.opa_window.proofs.years.count_on.Given as goal

abbrev pub invariant-loop-next : goal.invariant-loop-next
invariant-loop-next l = Counting l.day l.fn.out l.to l.years l.next l.out

abbrev pub decreases-loop-next : goal.decreases-loop-next
decreases-loop-next l = l.to - l.next
