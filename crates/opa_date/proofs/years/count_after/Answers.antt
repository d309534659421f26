use Rattle.std.proofs.Common.{arith, FitsSigned, w32, pos, ◌≤ℤ◌}
use Rattle.std.proofs.lemmas.Int.{to_z-of_z}
use Rattle.jiff_core.proofs.SignedLemmas.{signed_arith}
use Rattle.opa_date.proofs.Months.{year_is, number_is}
use Rattle.opa_date.proofs.DatesOfDays.{date_of-is, date_of-year}
use Rattle.opa_date.proofs.years.count_after.Goals as goal

pub returns : goal.returns
returns c =
    let e = c.date_of_day.ensures in
    let f4 : FitsSigned w32 c.args.months = c.ranges.months in
    let value = simp to_z-of_z at c.in-Ok.ensures.value in
    let month = simp to_z-of_z at c.in-Ok.ensures.month in
    let year = year_is c.date_of_day.result c.args.day c.args.months (e.year, e.month, e.day) c.requires.day_in c.in-Ok.later value month in
    let late : pos 1600 ≤ℤ c.in-Ok.later.year =
    omega (arith, signed_arith, year, date_of-year c.args.day c.requires.day_in, (date_of-is c.args.day c.requires.day_in).0.1, c.requires.months_in) in
    let same = number_is c.date_of_day.result c.args.day c.args.months (e.year, e.month, e.day) c.requires.day_in c.in-Ok.later value month late in
    omega (arith, signed_arith, same, c.days_since_min.ensures.value)
