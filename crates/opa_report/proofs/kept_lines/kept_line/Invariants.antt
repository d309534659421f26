use Rattle.opa_report.proofs.kept_lines.kept_line.Given as goal

abbrev pub invariant-loop-one : goal.invariant-loop-one
invariant-loop-one g l = Unit {0}
