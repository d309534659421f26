use Rattle.opa_need.proofs.noted.is_noted.Given as goal

abbrev pub invariant-loop-one : goal.invariant-loop-one
invariant-loop-one g l = Unit {0}
