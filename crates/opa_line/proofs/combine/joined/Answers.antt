use Rattle.std.proofs.Common.{rules, ◌∙◌, sym, ap, arith}
use Rattle.opa_date.specs.declared.TheConstants.{DAYS}
use Rattle.opa_line.specs.Lines.{at}
use Rattle.opa_line.proofs.Tracking.{next_day, shorter}
use Rattle.opa_line.proofs.Zipping.{joined_start, joined_now, joined_next, joined_end}
use Rattle.opa_line.proofs.combine.joined.Goals as goal

pub f-requires : goal.f-requires
f-requires g c =
    let r = joined_now g.F.Fn c.args.f DAYS c.args.first.now c.args.second.now _ _ _ _ _ c.loop-day.invariant in
    let h = c.requires c.loop-day.out.0 in
    let lt = r.0 in
    let a = r.1 in
    let b = r.2 in
    search rules

pub loop-day-preserved : goal.loop-day-preserved
loop-day-preserved g c =
    let e = joined_next g.F.Fn c.args.f DAYS c.args.first.now c.args.second.now c.loop-day.x c.loop-day.y _ _ _ c.until.new.self c.in-Some.day c.in_ok-value.value c.loop-day.invariant (sym c.next_day.ensures ∙ c.in-Some.is) c.in_ok-value.ensures c.in_ok-until.ensures in
    rw (c.reached_value-x.ensures, c.reached_value-y.ensures, c.reached_rest-left.ensures, c.reached_rest-right.ensures) e

pub returns : goal.returns
returns g c =
    let e = joined_end g.F.Fn c.args.f DAYS c.args.first.now c.args.second.now c.loop-day.x c.loop-day.y _ _ _ c.until-2.new.self c.in_ok-last.last c.loop-day.invariant (sym c.next_day.ensures ∙ c.in_default.is) c.in_ok-last.ensures c.in_ok-until-2.ensures in
    λ d lt. let v = e.1 d lt in (v.0, v.1, ap (λ l. at l d) c.finish.ensures ∙ v.2)

pub loop-day-init : goal.loop-day-init
loop-day-init g c =
    rw (c.segments-xs.ensures.value, c.segments-ys.ensures.value)
    (joined_start g.F.Fn c.args.f DAYS c.args.first.now c.args.second.now c.index-xs-0.result c.index-ys-0.result c.with_room-out.result c.segments-xs.ensures.form c.segments-ys.ensures.form (omega arith) c.with_room-out.ensures)

pub until-requires : goal.until-requires
until-requires g c =
    let n = next_day DAYS c.loop-day.out.0 _ _ _ _ c.in-Some.day c.loop-day.invariant.left.follows c.loop-day.invariant.right.follows (sym c.next_day.ensures ∙ c.in-Some.is) in
    omega (arith, n.1)

pub loop-day-smaller : goal.loop-day-smaller
loop-day-smaller g c =
    rw (c.reached_rest-left.ensures, c.reached_rest-right.ensures) (shorter _ _ c.in-Some.day (sym c.next_day.ensures ∙ c.in-Some.is))

pub f-requires-2 : goal.f-requires-2
f-requires-2 g c =
    let r = joined_now g.F.Fn c.args.f DAYS c.args.first.now c.args.second.now _ _ _ _ _ c.loop-day.invariant in
    let h = c.requires c.loop-day.out.0 in
    let lt = r.0 in
    let a = r.1 in
    let b = r.2 in
    search rules
