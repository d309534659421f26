use Rattle.opa_session.proofs.settlement.Adding.{add_ok, no_ok}
use Rattle.opa_session.proofs.settlement.tasks.Tasks.add.Goals as goal
use Rattle.opa_session.proofs.settlement.tasks.Tasks.add.Goals.{in-Ok, in-Err}

pub returns : goal.returns
returns c = elim c.match-insert.branch [
  | in-Ok w ↦ add_ok c.match-insert.result c.self.inside.tasks c.insert.new.self c.args.task c.args.self.now c.self.view_is w.in-Ok.ensures.updates.0
  | in-Err w ↦ no_ok c.match-insert.result _ _ w.result-is
]
