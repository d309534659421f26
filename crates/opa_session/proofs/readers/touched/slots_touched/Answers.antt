use Rattle.opa_case.specs.Overlays.{relisted_case}
use Rattle.opa_mean.specs.Reached.Settling.{shift}
use Rattle.opa_session.specs.Readers.Indexes.{readers_in}
use Rattle.opa_session.proofs.readers.Touching.{are_touched}
use Rattle.opa_session.proofs.readers.touched.slots_touched.Goals as goal

pub returns : goal.returns
returns c =
    are_touched (shift c.args.base.now c.args.next.now.case.now (relisted_case c.args.next.now)) (readers_in c.args.index.now) c.args.told.now c.in_ok-turned.turned c.as_slice-slots.result.now c.new-tasks.result c.mark.new.tasks c.mark_readers.new.tasks c.in_ok-turned.ensures c.as_slice-slots.ensures c.in_ok-mark.ensures c.in_ok-mark_readers.ensures
