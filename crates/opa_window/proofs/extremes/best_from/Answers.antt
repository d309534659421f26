use Rattle.opa_window.specs.Folds.{is_beaten_of}
use Rattle.opa_window.specs.Runs.{shown}
use Rattle.opa_window.proofs.Beaten.{never}
use Rattle.opa_window.proofs.RunSteps.{shown_step, choose_next}
use Rattle.opa_window.proofs.extremes.best_from.Goals as goal

pub loop-rest-preserved : goal.loop-rest-preserved
loop-rest-preserved c =
    choose_next (is_beaten_of c.args.most) (never c.args.most) c.args.first.now (shown c.args.runs.now) c.loop-rest.best.now _ (shown c.loop-rest.rest.now) _ c.run-item.result.0 c.run-item.result.1.now
    (shown_step c.loop-rest.rest.now c.run-item.result c.in-len1-up.len_at_least c.run-item.is) c.loop-rest.invariant c.better-best.ensures
