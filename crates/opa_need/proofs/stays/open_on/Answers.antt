use Rattle.std.proofs.Common.{rules, arith}
use Rattle.opa_need.proofs.GoalLaws.{known_further, change_later, not_open}
use Rattle.opa_need.proofs.stays.open_on.Goals as goal

pub loop-from-smaller : goal.loop-from-smaller
loop-from-smaller c =
    let later = change_later c.args.line.now c.loop-from.from c.segments-form.ensures.form c.loop-from-test.true in omega (arith, later.0, c.until-from.ensures, c.loop-from-test.true)

pub loop-from-preserved : goal.loop-from-preserved
loop-from-preserved c =
    let later = change_later c.args.line.now c.loop-from.from c.segments-form.ensures.form c.loop-from-test.true in (
      omega (arith, later.0, c.until-from.ensures, c.loop-from.invariant.0),
      omega (arith, later.1, c.until-from.ensures),
      known_further c.args.line.now c.args.day c.loop-from.from c.until-from.result c.segments-form.ensures.form c.until-from.ensures (not_open _ _ c.at.ensures (search rules)) c.loop-from.invariant.2,
    )
