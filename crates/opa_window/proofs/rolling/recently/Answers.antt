use Rattle.opa_value.specs.declared.value.Value.TheVariants as value
use Rattle.opa_window.specs.Marks.{has_mark}
use Rattle.opa_window.proofs.Seen.{going_start, going_step}
use Rattle.opa_window.proofs.rolling.recently.Goals as goal

pub loop-rest-init : goal.loop-rest-init
loop-rest-init c = going_start (has_mark c.args.mark) value.Unknown c.args.days c.args.x.now c.segments-rest.result.now c.new-out.result c.segments-rest.ensures.form c.segments-rest.ensures.value c.new-out.ensures

pub loop-rest-preserved : goal.loop-rest-preserved
loop-rest-preserved c =
    going_step (has_mark c.args.mark) value.Unknown c.args.days c.args.x.now c.loop-rest.rest.now c.p-item.result c.start_of-to.result c.has_mark-on.result c.loop-rest.fades _ c.loop-rest.out c.fill.new.out
    c.requires.some c.in-len1-up.len_at_least c.p-item.is c.loop-rest.invariant c.start_of-to.ensures c.has_mark-on.ensures c.in_ok-fill.ensures c.fade-fades.ensures
