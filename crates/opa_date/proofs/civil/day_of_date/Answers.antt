use Rattle.std.proofs.Common.{arith}
use Rattle.jiff_core.proofs.DateLemmas.{civil}
use Rattle.jiff_core.proofs.SignedLemmas.{signed_arith}
use Rattle.opa_date.specs.Gregorian.{Date}
use Rattle.opa_date.proofs.Numbers.{number-jiff}
use Rattle.opa_date.proofs.DatesOfDays.{day_in}
use Rattle.opa_date.proofs.civil.day_of_date.Goals as goal

pub overflow_sub-result : goal.overflow_sub-result
overflow_sub-result c =
    let p : Date = record { year = c.args.date.year; month = c.args.date.month; day = c.args.date.day } in
    let within = day_in p (civil c.args.date) c.requires in
    omega (arith, signed_arith, c.days_since_min.ensures.value, within.0)

pub returns-clause-value : goal.returns-clause-value
returns-clause-value c =
    let p : Date = record { year = c.args.date.year; month = c.args.date.month; day = c.args.date.day } in
    let within = day_in p (civil c.args.date) c.requires in
    omega (arith, signed_arith, c.days_since_min.ensures.value, within.0, number-jiff p c.requires.0 (civil c.args.date).2.0)

pub returns-clause-bound : goal.returns-clause-bound
returns-clause-bound c =
    let p : Date = record { year = c.args.date.year; month = c.args.date.month; day = c.args.date.day } in
    let within = day_in p (civil c.args.date) c.requires in
    omega (arith, signed_arith, c.days_since_min.ensures.value, within.0, within.1)
