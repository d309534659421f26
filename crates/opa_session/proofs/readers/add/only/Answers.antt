use Rattle.std.proofs.Common.{List, subst}
use Rattle.opa_mean.specs.declared.reached.slot.Slot.{Slot}
use Rattle.opa_session.specs.Readers.Indexes.{AddsSlot}
use Rattle.opa_session.proofs.readers.add.only.Goals as goal

pub returns : goal.returns
returns c = subst (λ (xs : List Slot). AddsSlot xs c.add_slot.new.slots.keys (c.args.attr, c.args.inst.now)) c.new-slots.ensures.empty c.in_ok-add_slot.ensures.adds
