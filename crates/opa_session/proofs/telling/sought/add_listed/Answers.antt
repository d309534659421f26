use Rattle.opa_session.proofs.telling.Placing.{listed_there}
use Rattle.opa_session.proofs.telling.sought.add_listed.Goals as goal

pub returns-clause-there : goal.returns-clause-there
returns-clause-there c = listed_there c.args.all.now c.push.new.self c.args.inst.now c.in_ok-inst.inst c.in_ok-push.ensures.ok c.in_ok-inst.ensures
