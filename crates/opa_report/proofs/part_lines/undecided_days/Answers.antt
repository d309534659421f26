use Rattle.std.proofs.Common.{[], refl}
use Rattle.opa_window.specs.Days.{day_value}
use Rattle.opa_report.specs.Spreading.{is_truth}
use Rattle.opa_report.proofs.Going.{left_step}
use Rattle.opa_report.proofs.part_lines.undecided_days.Goals as goal

pub loop-line-preserved : goal.loop-line-preserved
loop-line-preserved c =
    left_step (λ d x. is_truth c.args.truth (day_value x d)) (λ d x. []) c.args.lines.now c.args.days.now c.loop-line.line-index c.line-item.result c.args.truth c.line-item.result c.loop-line.undecided c.in_ok-undecided-2.undecided
    c.loop-line-test.true c.line-item.is (λ d low. refl) c.loop-line.invariant c.in_ok-undecided-2.ensures
