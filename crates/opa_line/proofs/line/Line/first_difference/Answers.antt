use Rattle.std.proofs.Common.{◌∙◌, sym, ap, arith}
use Rattle.std.specs.Prelude.{slice_index_or}
use Rattle.opa_date.specs.declared.TheConstants.{DAYS}
use Rattle.opa_line.proofs.Differing.{equal_start, equal_next, differs, differs_first, never_differ}
use Rattle.opa_line.proofs.line.Line.first_difference.Goals as goal

pub loop-day-init : goal.loop-day-init
loop-day-init g c =
    let h = rw (c.segments-xs.ensures.value, c.segments-ys.ensures.value) at (c.same.ensures.0 c.if-same.true) in
    rw (c.segments-xs.ensures.value, c.segments-ys.ensures.value) (equal_start DAYS c.args.self.now c.args.other.now c.index-xs-0.result c.index-ys-0.result c.segments-xs.ensures.form c.segments-ys.ensures.form (omega arith) h)

pub loop-day-preserved : goal.loop-day-preserved
loop-day-preserved g c =
    let h = rw (c.reached_value-x.ensures, c.reached_value-y.ensures) at (c.same-in-Some.ensures.0 c.if-same-2.true) in
    rw (c.reached_value-x.ensures, c.reached_value-y.ensures, c.reached_rest-left.ensures, c.reached_rest-right.ensures) (equal_next DAYS c.args.self.now c.args.other.now _ _ _ _ _ _ c.loop-day.invariant (sym c.next_day.ensures ∙ c.in-Some.is) h)

pub returns-else-same-2 : goal.returns-else-same-2
returns-else-same-2 g c =
    differs DAYS c.args.self.now c.args.other.now _ _ _ _ _ _ c.loop-day.invariant (sym c.next_day.ensures ∙ c.in-Some.is)
    (λ e. cc (c.same-in-Some.ensures.1 (c.reached_value-x.ensures ∙ e ∙ sym c.reached_value-y.ensures), c.if-same-2.false))

pub returns-in_default : goal.returns-in_default
returns-in_default g c = never_differ DAYS c.args.self.now c.args.other.now _ _ _ _ _ c.segments-xs.ensures.form c.segments-ys.ensures.form c.loop-day.invariant (sym c.next_day.ensures ∙ c.in_default.is)

pub returns-else-same : goal.returns-else-same
returns-else-same g c =
    differs_first DAYS c.args.self.now c.args.other.now c.index-xs-0.result c.index-ys-0.result c.segments-xs.ensures.form c.segments-ys.ensures.form (omega arith)
    (λ e. cc (c.same.ensures.1 (ap (λ xs. (slice_index_or xs 0 c.index-xs-0.result).1) c.segments-xs.ensures.value ∙ e ∙ ap (λ ys. (slice_index_or ys 0 c.index-ys-0.result).1) (sym c.segments-ys.ensures.value)), c.if-same.false))
