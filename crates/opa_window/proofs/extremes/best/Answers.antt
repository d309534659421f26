use Rattle.std.proofs.Common.{◌∙◌}
use Rattle.opa_line.proofs.Zipping.{ok_weaker}
use Rattle.opa_window.specs.Folds.{is_beaten_of}
use Rattle.opa_window.specs.Runs.{shown}
use Rattle.opa_window.proofs.Beaten.{never}
use Rattle.opa_window.proofs.RunSteps.{shown_step, long_step, best_first}
use Rattle.opa_window.proofs.extremes.best.Goals as goal

pub best_from-requires : goal.best_from-requires
best_from-requires c =
    let step = shown_step c.args.runs.now c.first-item.result c.in-len1-up.len_at_least c.first-item.is in
    (long_step (shown c.args.runs.now) _ c.first-item.result.0 c.first-item.result.1.now step c.requires).1

pub returns-in-len1-up : goal.returns-in-len1-up
returns-in-len1-up c =
    let step = shown_step c.args.runs.now c.first-item.result c.in-len1-up.len_at_least c.first-item.is in
    ok_weaker c.copy.result _ _ (λ v is. is ∙ c.best_from.ensures ∙ best_first (is_beaten_of c.args.most) (never c.args.most) (shown c.args.runs.now) _ c.first-item.result.0 c.first-item.result.1.now step c.requires) c.copy.ensures
