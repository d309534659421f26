-- Days and dates are one to one.
use Rattle.std.proofs.Common.{◌≡◌, ℕ, ◌<◌, refl, ap, ◌∙◌, arith, ℤ}
use Rattle.jiff_core.proofs.DateLemmas.{epoch_day_injective}
use Rattle.jiff_core.proofs.SignedLemmas.{signed_arith}
use Rattle.opa_date.specs.Gregorian.{Date, IsDate, IsCalendarYear, date_of, day_number}
use Rattle.opa_date.specs.Laws.{AgreesWithJiff}
use Rattle.opa_date.proofs.Numbers.{number-jiff}
use Rattle.opa_date.proofs.DatesOfDays.{IsCivil, plain, date_of-is, date_of-year, day_in}

pub days_have_dates : (n : ℕ) → n < 292_194 → IsDate (date_of n) × IsCalendarYear (date_of n).year × (day_number (date_of n) ≡ n)
days_have_dates n h =
    let own = date_of-is n h in
    let year = date_of-year n h in (
      record { month_in = own.0.1; day_in = own.0.2 },
      year,
      omega (arith, signed_arith, number-jiff (date_of n) year.0 own.0.2.0, own.1),
    )

same_date : (p q : Date) → p.year ≡ q.year → p.month ≡ q.month → p.day ≡ q.day → p ≡ q
same_date p q y m d =
    ap (λ (z : ℤ). let r : Date = record { year = z; month = p.month; day = p.day } in r) y
    ∙ ap (λ (k : ℕ). let r : Date = record { year = q.year; month = k; day = p.day } in r) m
    ∙ ap (λ (k : ℕ). let r : Date = record { year = q.year; month = q.month; day = k } in r) d

pub dates_have_days : (p : Date) → IsDate p → IsCalendarYear p.year → (day_number p < 292_194) × (date_of (day_number p) ≡ p)
dates_have_days p h year =
    let civil : IsCivil p = ((omega (arith, signed_arith, year), omega (arith, signed_arith, year)), h.month_in, h.day_in) in
    let number = number-jiff p year.0 h.day_in.0 in
    let within = day_in p civil year in
    let small : day_number p < 292_194 = omega (arith, signed_arith, number, within.1) in
    let own = date_of-is (day_number p) small in
    let same = epoch_day_injective (plain (date_of (day_number p)) own.0) (plain p civil) (omega (arith, signed_arith, number, own.1)) in
    (small, same_date (date_of (day_number p)) p same.0 same.1 same.2)

pub agrees_with_jiff : AgreesWithJiff
agrees_with_jiff = record {
  leap_years = λ y. refl;
  lengths = λ y m. refl;
  days = λ p h late. omega (arith, signed_arith, number-jiff p late h.day_in.0);
}
