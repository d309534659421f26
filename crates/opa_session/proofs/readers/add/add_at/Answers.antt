use Rattle.std.proofs.Common.{ℕ, sym, ◌∙◌, ap, refl}
use Rattle.std.specs.Option.{option_copied_mut}
use Rattle.opa_io.proofs.Results.{always_on_err}
use Rattle.opa_cells.specs.declared.instance.InstanceId.{InstanceId}
use Rattle.opa_session.proofs.readers.Adding.{put_there, put_first}
use Rattle.opa_session.proofs.readers.Taking.{table_same}
use Rattle.opa_session.proofs.readers.add.add_at.Goals as goal

pub returns-in_ok-add_slot-in-Some-clause-adds : goal.returns-in_ok-add_slot-in-Some-clause-adds
returns-in_ok-add_slot-in-Some-clause-adds c =
    put_there c.args.cells.now _ (c.args.number, c.args.key.now) c.in-Some.slots.now c.add_slot.new.slots (c.args.attr, c.args.inst.now)
    (sym c.get_mut.ensures.value ∙ ap option_copied_mut c.in-Some.is) refl c.in_ok-add_slot-in-Some.ensures.adds

pub returns-in_ok-insert-in-None-clause-adds : goal.returns-in_ok-insert-in-None-clause-adds
returns-in_ok-insert-in-None-clause-adds c =
    put_first c.args.cells.now c.insert.new.self (c.args.number, c.args.key.now) (c.args.number, c.in_ok-key-in-None.key) c.in_ok-slots-in-None.slots (c.args.attr, c.args.inst.now)
    (sym c.get_mut.ensures.value ∙ ap option_copied_mut c.in-None.is) (ap (λ (i : InstanceId). let k : ℕ × InstanceId = (c.args.number, i) in k) c.in_ok-key-in-None.ensures) c.in_ok-insert-in-None.ensures.ok c.in_ok-slots-in-None.ensures

pub returns-in_err-add_slot-in-Some-clause-err : goal.returns-in_err-add_slot-in-Some-clause-err
returns-in_err-add_slot-in-Some-clause-err c =
    always_on_err c.from_residual.result
    (table_same c.args.cells.now _ (c.args.number, c.args.key.now) c.in-Some.slots.now c.add_slot.new.slots (sym c.get_mut.ensures.value ∙ ap option_copied_mut c.in-Some.is) refl c.in_err-add_slot-in-Some.ensures.err)
