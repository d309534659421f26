use Rattle.opa_case.proofs.every.+walk.Given as goal

abbrev pub decreases-walk : goal.decreases-walk
decreases-walk g l = l.steps
