use Rattle.std.proofs.Common.{refl}
use Rattle.opa_mean.specs.Given.{base_of}
use Rattle.opa_session.proofs.telling.Taking.{told_start, told_next}
use Rattle.opa_session.proofs.telling.attrs.attributes_of.Goals as goal

pub loop-slot-init : goal.loop-slot-init
loop-slot-init c = told_start (base_of c.args.base.now) c.no_attributes-told.result c.no_attributes-told.ensures.attrs c.no_attributes-told.ensures.single c.no_attributes-told.ensures.last

pub loop-slot-preserved : goal.loop-slot-preserved
loop-slot-preserved c =
    told_next (base_of c.args.base.now) c.args.slots.now c.loop-slot.slot-index c.slot-item.result c.add_attribute.new.told c.loop-slot-test.true c.slot-item.is
    (c.in_ok-fits.ensures _ c.slot-item.result refl c.loop-slot.invariant c.if-not-fits.false)
