use Rattle.std.proofs.Common.{◌∙◌, sym}
use Rattle.opa_window.specs.Marks.{has_mark}
use Rattle.opa_window.specs.Runs.{shown}
use Rattle.opa_window.proofs.RunSteps.{shown_step, occurs_not, occurs_here}
use Rattle.opa_window.proofs.marks.occurs.Goals as goal

pub returns-then-has_mark : goal.returns-then-has_mark
returns-then-has_mark c =
    sym (occurs_here (has_mark c.args.mark) (shown c.args.runs.now) (shown c.loop-rest.rest.now) _ c.run-item.result.0 c.run-item.result.1.now
    (shown_step c.loop-rest.rest.now c.run-item.result c.in-len1-up.len_at_least c.run-item.is) c.loop-rest.invariant (sym c.has_mark.ensures ∙ c.if-has_mark.true))

pub loop-rest-preserved : goal.loop-rest-preserved
loop-rest-preserved c =
    occurs_not (has_mark c.args.mark) (shown c.args.runs.now) (shown c.loop-rest.rest.now) _ c.run-item.result.0 c.run-item.result.1.now
    (shown_step c.loop-rest.rest.now c.run-item.result c.in-len1-up.len_at_least c.run-item.is) c.loop-rest.invariant (sym c.has_mark.ensures ∙ c.if-has_mark.false)
