use Rattle.opa_session.proofs.telling.Reached.{those_back}
use Rattle.opa_session.proofs.telling.reach.are_apart.Goals as goal

pub returns : goal.returns
returns c = λ true. those_back c.args.first.now c.args.second.now (c.in_ok-others.ensures true)
