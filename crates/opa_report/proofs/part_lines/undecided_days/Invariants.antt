use Rattle.opa_window.specs.Days.{day_value}
use Rattle.std.proofs.Common.{[]}
use Rattle.opa_report.specs.Spreading.{is_truth}
use Rattle.opa_report.proofs.Going.{AreLeft}
use Rattle.opa_report.proofs.part_lines.undecided_days.Given as goal

abbrev pub invariant-loop-line : goal.invariant-loop-line
invariant-loop-line l = AreLeft (λ d x. is_truth l.truth (day_value x d)) (λ d x. []) l.lines l.days l.line-index l.undecided
