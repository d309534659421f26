use Rattle.opa_value.specs.declared.value.Value.TheVariants as value
use Rattle.opa_window.specs.Windows as meant
use Rattle.opa_window.proofs.Stretching.{stretching_start, stretching_next}
use Rattle.opa_window.proofs.dates.before.Goals as goal

pub loop-rest-init : goal.loop-rest-init
loop-rest-init c = stretching_start meant.before value.Unknown c.args.date.now c.segments-rest.result.now c.new-out.result c.segments-rest.ensures.form c.segments-rest.ensures.value c.new-out.ensures

pub loop-rest-preserved : goal.loop-rest-preserved
loop-rest-preserved c =
    stretching_next meant.before value.Unknown c.args.date.now c.loop-rest.rest.now c.p-item.result c.start_of-to.result c.loop-rest.out c.before_date.new.out
    c.in-len1-up.len_at_least c.p-item.is c.loop-rest.invariant c.start_of-to.ensures c.in_ok-before_date.ensures
