use Rattle.std.proofs.Common.{◌∙◌, ap, Some, ◌&&◌, not}
use Rattle.opa_line.proofs.Zipping.{ok_weaker}
use Rattle.opa_report.specs.DaySets.Sets.{on}
use Rattle.opa_report.proofs.day_sets.Setting.{on_is}
use Rattle.opa_report.proofs.choices.without_truth.Goals as goal

pub returns : goal.returns
returns c = ok_weaker c.without.result _ _ (λ l h d lt. h d lt ∙ ap (λ b. Some (on c.args.days.now d && not b)) (on_is _ c.in_ok-here.here d c.in_ok-here.ensures lt)) c.without.ensures
