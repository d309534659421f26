-- Whole years between days.
use Rattle.std.proofs.Common.{◌≡◌, inl, inr, ℕ, zero, suc, ◌-◌, ◌<◌, ◌≤◌, min, nat_le, if◌then◌else◌, Bool, true, false, Some, refl, ap, ap₂, ◌∙◌, arith, ℤ, pos, ◌+ℤ◌, ◌*ℤ◌, ◌<ℤ◌, ◌≤ℤ◌}
use Rattle.std.proofs.lemmas.Bool.{cases_lt, cases_order, le-leb, leb-true, leb-false}
use Rattle.std.proofs.lemmas.Int.{by_lt_z}
use Rattle.jiff_core.specs.Calendar.{days_in_month}
use Rattle.jiff_core.proofs.CalendarLemmas.{days_in_month_bounds}
use Rattle.jiff_core.proofs.SignedLemmas.{signed_arith}
use Rattle.jiff_span.proofs.MonthLemmas.{days_from_civil-month}
use Rattle.opa_date.specs.Gregorian.{Date, date_of, day_number}
use Rattle.opa_date.specs.Moves.{months_later, years_later, IsYearsBetween, years_up_to, years_between}
use Rattle.opa_date.proofs.Numbers.{jiff_number, number-jiff}
use Rattle.opa_date.proofs.DatesOfDays.{IsCivil, date_of-is, date_of-year}

-- a day of a month, or its last day
abbrev pub clamped : ℤ → ℕ → ℕ → Date
clamped y m d = record { year = y; month = m; day = min d (days_in_month y m) }

-- the date j years later has the same month
moved_year : (p : Date) (j : ℕ) → (1 ≤ p.month) × (p.month ≤ 12) → (months_later p (pos j *ℤ pos 12)).year ≡ p.year +ℤ pos j
moved_year p j h = omega (arith, signed_arith, h)

moved_month : (p : Date) (j : ℕ) → (1 ≤ p.month) × (p.month ≤ 12) → (months_later p (pos j *ℤ pos 12)).month ≡ p.month
moved_month p j h = omega (arith, signed_arith, h)

-- the date j years later in plain words
abbrev pub anniversary : ℕ → ℕ → Date
anniversary n j = clamped ((date_of n).year +ℤ pos j) (date_of n).month (date_of n).day

pub months-anniversary : (n j : ℕ) → n < 292_194 → months_later (date_of n) (pos j *ℤ pos 12) ≡ anniversary n j
months-anniversary n j h =
    let month = (date_of-is n h).0.1 in
    ap₂ (λ y m. clamped y m (date_of n).day) (moved_year (date_of n) j month) (moved_month (date_of n) j month)

pub later-anniversary : (n j : ℕ) → n < 292_194 → years_later n j ≡ day_number (anniversary n j)
unfolding years_later
later-anniversary n j h = ap day_number (months-anniversary n j h)

pub later_is : (n j : ℕ) → n < 292_194 → pos (years_later n j) ≡ jiff_number (anniversary n j)
later_is n j h =
    let q = anniversary n j in
    ap pos (later-anniversary n j h)
    ∙ number-jiff q (omega (arith, signed_arith, date_of-year n h)) (omega (arith, (date_of-is n h).0.2.0, (days_in_month_bounds q.year q.month).1))

-- an earlier year has earlier days
earlier : (p q : Date) → IsCivil p → 1 ≤ q.month → q.month ≤ 12 → 1 ≤ q.day → p.year <ℤ q.year → jiff_number p <ℤ jiff_number q
earlier p q h low high first lt =
    let order = days_from_civil-month p.year q.year p.month q.month p.day q.day h low high first (omega (arith, signed_arith, h.1, low, high, lt)) in
    omega (arith, signed_arith, order)

pub year_order : (n m : ℕ) → n < 292_194 → m < 292_194 → n ≤ m → (date_of n).year ≤ℤ (date_of m).year
year_order n m hn hm le =
    let a = date_of-is n hn in
    let b = date_of-is m hm in
    by_lt_z (date_of m).year (date_of n).year
    (λ lt. absurd (omega (arith, signed_arith, le, a.1, b.1, earlier (date_of m) (date_of n) b.0 a.0.1.0 a.0.1.1 a.0.2.0 lt)))
    (λ ge. ge)

-- a later year is past the day
past : (n m j : ℕ) → n < 292_194 → m < 292_194 → (date_of m).year <ℤ ((date_of n).year +ℤ pos j) → m < years_later n j
past n m j hn hm lt =
    let a = date_of-is n hn in
    let b = date_of-is m hm in
    let q = anniversary n j in
    let bounds = days_in_month_bounds q.year q.month in
    let order = earlier (date_of m) q b.0 a.0.1.0 a.0.1.1 (omega (arith, a.0.2.0, bounds.1)) lt in
    omega (arith, signed_arith, order, b.1, later_is n j hn)

-- and an earlier one before it
short : (n m j : ℕ) → n < 292_194 → m < 292_194 → ((date_of n).year +ℤ pos j) <ℤ (date_of m).year → years_later n j < m
short n m j hn hm lt =
    let a = date_of-is n hn in
    let b = date_of-is m hm in
    let years = date_of-year n hn in
    let others = date_of-year m hm in
    let q = anniversary n j in
    let bounds = days_in_month_bounds q.year q.month in
    let order = earlier q (date_of m)
    ((omega (arith, signed_arith, years), omega (arith, signed_arith, others, lt)), a.0.1, (omega (arith, a.0.2.0, bounds.1), omega arith))
    b.0.1.0 b.0.1.1 b.0.2.0 lt in
    omega (arith, signed_arith, order, b.1, later_is n j hn)

-- no years later is the day itself
pub zero_years : (n : ℕ) → n < 292_194 → years_later n 0 ≡ n
zero_years n h =
    let a = date_of-is n h in
    let year : (date_of n).year +ℤ pos 0 ≡ (date_of n).year = omega (arith, signed_arith) in
    let day : min (date_of n).day (days_in_month (date_of n).year (date_of n).month) ≡ (date_of n).day = omega (arith, a.0.2.1) in
    let number = later_is n 0 h ∙ ap (λ y. jiff_number (clamped y (date_of n).month (date_of n).day)) year
    ∙ ap (λ (d : ℕ). jiff_number (record { year = (date_of n).year; month = (date_of n).month; day = d })) day ∙ a.1 in
    omega (arith, signed_arith, number)

-- the greatest number up to a bound is the greatest one, where that isn't above the bound
one_bound : (n m k b : ℕ) → IsYearsBetween n m k → k ≤ suc b → (k ≤ b → years_up_to n m b ≡ k)
    → (t : Bool) → nat_le (years_later n (suc b)) m ≡ t → (if t then suc b else years_up_to n m b) ≡ k
one_bound n m k b h le rest true e = omega (arith, le, h.greatest (suc b) (leb-true _ _ e))
one_bound n m k b h le rest false e = elim (cases_order k (suc b)) [
  | inl same ↦ absurd (omega (arith, h.reaches, leb-false _ _ e, ap (years_later n) same))
  | inr (inl lt) ↦ rest (omega (arith, lt))
  | inr (inr gt) ↦ absurd (omega (arith, le, gt))
]

greatest_is : (n m k b : ℕ) → IsYearsBetween n m k → k ≤ b → years_up_to n m b ≡ k
unfolding years_up_to
greatest_is n m k zero h le = omega (arith, le)
greatest_is n m k (suc b) h le = one_bound n m k b h le (greatest_is n m k b h) (nat_le (years_later n (suc b)) m) refl

pub between_is : (n m k : ℕ) → n ≤ m → k ≤ 800 → IsYearsBetween n m k → years_between n m ≡ Some k
between_is n m k le few h = rw (le-leb _ _ le) (ap Some (greatest_is n m k 800 h few))

-- k is the difference of the years
module _ (n m k : ℕ) (hn : n < 292_194) (hm : m < 292_194) (is : (date_of m).year ≡ (date_of n).year +ℤ pos k) where
  at_most : (j : ℕ) → years_later n j ≤ m → j ≤ k
  at_most j reaches = elim (cases_lt k j) [
    | inl lt ↦ absurd (omega (arith, signed_arith, reaches, past n m j hn hm (omega (arith, signed_arith, is, lt))))
    | inr le ↦ le
  ]

  pub all_years : years_later n k ≤ m → IsYearsBetween n m k
  all_years reaches = record { reaches = reaches; greatest = at_most }

  pub one_less : n ≤ m → m < years_later n k → (1 ≤ k) × IsYearsBetween n m (k - 1)
  one_less le over =
      let some : 1 ≤ k = elim (cases_order k 0) [
        | inl none ↦ absurd (omega (arith, le, over, zero_years n hn, ap (years_later n) none))
        | inr (inl lt) ↦ absurd (omega (arith, lt))
        | inr (inr gt) ↦ gt
      ] in (
        some,
        record {
          reaches = let before = short n m (k - 1) hn hm (omega (arith, signed_arith, is, some)) in omega (arith, before);
          greatest = λ j reaches.
              let le : j ≤ k = at_most j reaches in
              elim (cases_order j k) [
                | inl same ↦ absurd (omega (arith, reaches, over, ap (years_later n) same))
                | inr (inl lt) ↦ omega (arith, lt)
                | inr (inr gt) ↦ absurd (omega (arith, gt, le))
              ];
        },
      )
