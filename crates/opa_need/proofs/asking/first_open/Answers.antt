use Rattle.std.proofs.Common.{rules, arith}
use Rattle.opa_need.proofs.GoalLaws.{known_more, change_later, not_open}
use Rattle.opa_need.proofs.asking.first_open.Goals as goal

pub loop-day-smaller : goal.loop-day-smaller
loop-day-smaller c =
    let later = change_later c.args.line.now c.loop-day.day c.segments-form.ensures.form c.loop-day-test.true in omega (arith, later.0, c.until-day.ensures, c.loop-day-test.true)

pub loop-day-preserved : goal.loop-day-preserved
loop-day-preserved c =
    let later = change_later c.args.line.now c.loop-day.day c.segments-form.ensures.form c.loop-day-test.true in (
      known_more c.args.line.now c.loop-day.day c.until-day.result c.segments-form.ensures.form c.until-day.ensures (not_open _ _ c.at.ensures (search rules)) c.loop-day.invariant.0,
      omega (arith, later.1, c.until-day.ensures),
    )
