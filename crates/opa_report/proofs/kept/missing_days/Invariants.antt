use Rattle.opa_report.proofs.kept.missing_days.Given as goal

abbrev pub invariant-loop-one : goal.invariant-loop-one
invariant-loop-one g l = Unit {0}
