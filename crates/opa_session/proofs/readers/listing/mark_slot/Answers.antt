use Rattle.std.proofs.Common.{sym, ◌∙◌}
use Rattle.opa_session.proofs.readers.Coming.{slot_waits, no_slot_waits}
use Rattle.opa_session.proofs.readers.listing.mark_slot.Goals as goal

pub returns-in_ok-mark_one : goal.returns-in_ok-mark_one
returns-in_ok-mark_one c =
    slot_waits c.args.base.now c.args.attr c.args.inst.now c.in_ok-inst.inst c.args.tasks.now c.mark_one.new.tasks c.in_ok-inst.ensures (sym c.has_slot-has.ensures ∙ c.if-has.true) c.in_ok-mark_one.ensures

pub returns-else-has : goal.returns-else-has
returns-else-has c = no_slot_waits c.args.base.now c.args.attr c.args.inst.now c.args.tasks.now (sym c.has_slot-has.ensures ∙ c.if-has.false)
