use Rattle.std.proofs.Common.{length}
use Rattle.opa_case.specs.Overlays.{relisted_case}
use Rattle.opa_mean.specs.Reached.Settling.{shift}
use Rattle.opa_session.specs.Readers.Touches.{AreRenewed}
use Rattle.opa_session.specs.Settlement.Tasks.{slots_of}
use Rattle.opa_session.proofs.readers.renew.renewed_each.Given as goal

abbrev pub invariant-loop-task : goal.invariant-loop-task
invariant-loop-task l = AreRenewed (shift l.base l.held (relisted_case l.next)) (slots_of l.fn.tasks) (slots_of l.tasks) l.all

abbrev pub decreases-loop-task : goal.decreases-loop-task
decreases-loop-task l = length l.tasks
