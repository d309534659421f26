use Rattle.std.proofs.Common.{◌≡◌, ◌++◌, take}
use Rattle.opa_mean.specs.Reached.Slots.{pairs_of}
use Rattle.opa_session.specs.Readers.Touches.{slots_at_each}
use Rattle.opa_session.proofs.readers.touched.add_each.Given as goal

abbrev pub invariant-loop-inst : goal.invariant-loop-inst
invariant-loop-inst l = pairs_of l.slots ≡ pairs_of l.fn.slots ++ slots_at_each l.base (take l.inst-index l.instances)
