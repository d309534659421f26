use Rattle.opa_case.proofs.every.+is_short.Given as goal

abbrev pub decreases-is_short : goal.decreases-is_short
decreases-is_short g l = l.steps
