use Rattle.std.proofs.Common.{ap, sym, ◌∙◌}
use Rattle.std.specs.FinMap.{get}
use Rattle.opa_session.proofs.store.Dropped.{slot_taken, slot_stays}
use Rattle.opa_session.proofs.store.dropping.drop_slot.Goals as goal

pub returns-then-has_slot : goal.returns-then-has_slot
returns-then-has_slot c a j =
    ap (λ m. get m (a, j)) c.remove.ensures ∙ slot_taken c.args.base.now c.args.entries.now c.args.attr.0 c.args.inst.now (sym c.has_slot.ensures ∙ c.if-has_slot.true) a j

pub returns-else-has_slot : goal.returns-else-has_slot
returns-else-has_slot c a j = slot_stays c.args.base.now c.args.entries.now c.args.attr.0 c.args.inst.now (sym c.has_slot.ensures ∙ c.if-has_slot.false) a j
