use Rattle.opa_session.proofs.settlement.Adding.{no_ok}
use Rattle.opa_session.proofs.readers.SlotSets.{set_added_ok}
use Rattle.opa_session.proofs.readers.add.add_slot.Goals as goal
use Rattle.opa_session.proofs.readers.add.add_slot.Goals.{in-Ok, in-Err}

pub returns-clause-adds : goal.returns-clause-adds
returns-clause-adds c = elim c.match-insert.branch [
  | in-Ok w ↦ set_added_ok c.match-insert.result c.args.slots.now c.insert.new.self c.args.attr c.args.inst.now c.in_ok-inst.inst c.in_ok-inst.ensures w.in-Ok.ensures.updates.0
  | in-Err w ↦ no_ok c.match-insert.result _ _ w.result-is
]
