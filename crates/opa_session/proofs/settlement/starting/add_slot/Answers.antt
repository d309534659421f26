use Rattle.opa_session.proofs.settlement.Adding.{add_slot_ok}
use Rattle.opa_session.specs.declared.settlement.task.Task.{Task}
use Rattle.opa_session.proofs.settlement.starting.add_slot.Goals as goal

pub returns : goal.returns
returns c =
    let t : Task = record { rank = c.rank_of.result; attr = c.args.slot.now.attr; inst = c.in_ok-copy.field-0 } in
    add_slot_ok c.add.result c.args.base.now c.args.slot.now c.args.tasks.now c.add.new.self t (λ k. record { rank = c.rank_of.ensures k; attr = c.args.slot.now.attr; inst = c.in_ok-copy.ensures k }) c.add.ensures
