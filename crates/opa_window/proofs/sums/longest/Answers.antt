use Rattle.std.proofs.Common.{rules}
use Rattle.opa_window.specs.Runs.{shown}
use Rattle.opa_window.proofs.RunSteps.{shown_step, run_start, run_next}
use Rattle.opa_window.proofs.sums.longest.Goals as goal

pub loop-rest-init : goal.loop-rest-init
loop-rest-init c = run_start (shown c.args.runs.now) c.requires.long

pub loop-rest-preserved : goal.loop-rest-preserved
loop-rest-preserved c =
    let e = run_next (shown c.args.runs.now) (shown c.loop-rest.rest.now) _ c.loop-rest.most c.loop-rest.current c.true_days-current.result c.run-item.result.0 c.run-item.result.1.now
    (shown_step c.loop-rest.rest.now c.run-item.result c.in-len1-up.len_at_least c.run-item.is) c.loop-rest.invariant c.true_days-current.ensures in
    search rules
