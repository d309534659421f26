use Rattle.opa_verify.proofs.listed.kept.kept_line.Given as goal

abbrev pub invariant-loop-one : goal.invariant-loop-one
invariant-loop-one g l = Unit {0}
