use Rattle.std.proofs.Common.{◌≡◌, arith, pos, ◌+ℤ◌, subst, ℤ, sym}
use Rattle.jiff_core.specs.Date.{epoch_day}
use Rattle.jiff_core.proofs.SignedLemmas.{signed_arith}
use Rattle.opa_date.specs.Gregorian.{IsCalendarYear}
use Rattle.opa_date.proofs.DatesOfDays.{parts_are, date_of-year}
use Rattle.opa_date.proofs.civil.date_of_day.Goals as goal

pub returns-clause-year : goal.returns-clause-year
returns-clause-year c =
    let e : epoch_day c.from_days_since_min.result +ℤ pos 135_140 ≡ pos c.args.day = omega (arith, signed_arith, c.from_days_since_min.ensures) in
    (parts_are c.from_days_since_min.result c.args.day c.requires e).0

pub returns-clause-month : goal.returns-clause-month
returns-clause-month c =
    let e : epoch_day c.from_days_since_min.result +ℤ pos 135_140 ≡ pos c.args.day = omega (arith, signed_arith, c.from_days_since_min.ensures) in
    (parts_are c.from_days_since_min.result c.args.day c.requires e).1

pub returns-clause-day : goal.returns-clause-day
returns-clause-day c =
    let e : epoch_day c.from_days_since_min.result +ℤ pos 135_140 ≡ pos c.args.day = omega (arith, signed_arith, c.from_days_since_min.ensures) in
    (parts_are c.from_days_since_min.result c.args.day c.requires e).2

pub returns-clause-in_calendar : goal.returns-clause-in_calendar
returns-clause-in_calendar c =
    let e : epoch_day c.from_days_since_min.result +ℤ pos 135_140 ≡ pos c.args.day = omega (arith, signed_arith, c.from_days_since_min.ensures) in
    subst (λ (y : ℤ). IsCalendarYear y) (sym (parts_are c.from_days_since_min.result c.args.day c.requires e).0) (date_of-year c.args.day c.requires)
