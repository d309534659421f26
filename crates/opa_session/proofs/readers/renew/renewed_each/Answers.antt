use Rattle.std.proofs.Common.{ap}
use Rattle.opa_case.specs.Overlays.{relisted_case}
use Rattle.opa_mean.specs.Reached.Settling.{shift}
use Rattle.opa_session.specs.Settlement.Tasks.{slots_of}
use Rattle.opa_session.specs.Readers.Indexes.{pair_of}
use Rattle.opa_session.proofs.readers.AllRenewed.{renewed_next}
use Rattle.opa_session.proofs.readers.renew.renewed_each.Goals as goal

pub loop-task-preserved : goal.loop-task-preserved
loop-task-preserved c =
    renewed_next (shift c.args.base.now c.args.held.now (relisted_case c.args.next.now)) (slots_of c.args.tasks) (slots_of c.loop-task.tasks) (slots_of c.take_first.new.self) c.loop-task.all c.push.new.self (c.in-Some.task.attr, c.in-Some.task.inst) c.in_ok-renewed.renewed
    (ap slots_of c.in-Some.ensures.taken) (ap pair_of c.in_ok-renewed.ensures.slot) c.in_ok-renewed.ensures.renewed c.in_ok-push.ensures.ok c.loop-task.invariant
