use Rattle.opa_need.proofs.lasting.noted_until.Given as goal

abbrev pub invariant-loop-one : goal.invariant-loop-one
invariant-loop-one g l = Unit {0}
