use Rattle.std.proofs.Common.{rules, ◌≡◌}
use Rattle.std.specs.Prelude.{pos, ◌*ℤ◌}
use Rattle.opa_window.specs.Folds.{count_of}
use Rattle.opa_window.specs.Runs.{shown}
use Rattle.opa_window.proofs.RunSteps.{shown_step}
use Rattle.opa_window.proofs.Totals.{sum_step}
use Rattle.opa_window.proofs.sums.total.Goals as goal

pub loop-rest-preserved : goal.loop-rest-preserved
loop-rest-preserved c =
    let v : c.times.result ≡ pos c.run-item.result.0 *ℤ count_of c.run-item.result.1.now = search rules in
    let e = sum_step 9223372036854775808 (shown c.args.runs.now) (shown c.loop-rest.rest.now) _ c.run-item.result.0 c.run-item.result.1.now _ c.times.result c.plus-sum.result
    (shown_step c.loop-rest.rest.now c.run-item.result c.in-len1-up.len_at_least c.run-item.is) c.loop-rest.invariant v c.times.ensures.low c.times.ensures.high (search rules) in
    search rules
