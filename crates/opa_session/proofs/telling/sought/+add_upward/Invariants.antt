use Rattle.opa_session.proofs.telling.sought.+add_upward.Given as goal

abbrev pub decreases-add_upward : goal.decreases-add_upward
decreases-add_upward g l = l.steps
