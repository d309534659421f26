use Rattle.std.proofs.Common.{◌∙◌, ap, Some, ◌||◌, ap₂, ◌/◌, length}
use Rattle.opa_line.proofs.Zipping.{ok_weaker}
use Rattle.opa_report.proofs.day_sets.Setting.{on_is}
use Rattle.opa_report.proofs.day_sets.Spanning.{halves}
use Rattle.opa_report.proofs.day_sets.spans.+of_spans.Goals as goal

pub returns : goal.returns
returns t c = ok_weaker c.either.result _ _ (λ l h d lt.
    h d lt ∙ ap Some (ap₂ (λ a b. a || b) (on_is _ c.in_ok-first.first d c.in_ok-first.ensures lt) (on_is _ c.in_ok-second.second d c.in_ok-second.ensures lt) ∙ halves (length c.args.spans.now / 2) c.args.spans.now d)) c.either.ensures
