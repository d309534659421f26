use Rattle.std.proofs.Common.{sym, ◌∙◌, ap, refl}
use Rattle.std.specs.Option.{option_copied_mut}
use Rattle.opa_session.proofs.readers.Taking.{take_there}
use Rattle.opa_session.proofs.readers.take.drop_at.Goals as goal

pub returns-in-Some : goal.returns-in-Some
returns-in-Some c =
    take_there c.args.cells.now _ (c.args.number, c.args.key.now) c.in-Some.slots.now c.drop_slot.new.slots (c.args.slot.now.attr, c.args.slot.now.inst) (sym c.get_mut.ensures.value ∙ ap option_copied_mut c.in-Some.is) refl c.drop_slot.ensures
