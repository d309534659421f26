-- A day's text is read as that day, and no other text is.
use Rattle.std.proofs.Common.{◌≡◌, ◌<◌, ◌+◌, ◌*◌, ◌/◌, ◌%◌, ℕ, List, [], ◌∷◌, length, slice_index, Bool, true, false, not, ◌&&◌, if◌then◌else◌, Result, Ok, Err, IfOk, arith, refl, sym, ap, ◌∙◌, ℤ, pos, negsuc, ◌≤ℤ◌, unsigned_abs}
use Rattle.std.specs.Char.{is_ascii_digit}
use Rattle.std.specs.Int.{IsInRange}
use Rattle.std.proofs.lemmas.Bool.{eqb-true, le-leb, leb-true}
use Rattle.jiff_core.proofs.CalendarLemmas.{days_in_month_bounds}
use Rattle.jiff_core.proofs.SignedLemmas.{signed_arith}
use Rattle.opa_date.specs.declared.fault.DayFault.{DayFault}
use Rattle.opa_date.specs.declared.fault.DayFault.TheVariants.{Form, NoSuchDay, Range}
use Rattle.opa_date.specs.Gregorian.{Date, IsDate, IsCalendarYear, is_calendar_year, date_of, day_number}
use Rattle.opa_date.specs.Texts.{is_day_form, IsDayForm, two_digits, named_date, is_date, day_of_named, read_day, date_text, day_text}
use Rattle.opa_date.proofs.DatesOfDays.{is_calendar_year-true}
use Rattle.opa_date.proofs.CalendarLaws.{days_have_dates, dates_have_days}

both : (a b : Bool) → (a && b) ≡ true → (a ≡ true) × (b ≡ true)
both true b e = (refl, e)
both false b e = cc e

digit_in : (c : ℕ) → is_ascii_digit c ≡ true → IsInRange 48 57 c
digit_in c e = grind arith

pub day_form : (t : List ℕ) → is_day_form t ≡ true → IsDayForm t
day_form t e =
    let (e9, d9) = both _ _ e in
    let (e8, d8) = both _ _ e9 in
    let (e7, dash7) = both _ _ e8 in
    let (e6, d6) = both _ _ e7 in
    let (e5, d5) = both _ _ e6 in
    let (e4, dash4) = both _ _ e5 in
    let (e3, d3) = both _ _ e4 in
    let (e2, d2) = both _ _ e3 in
    let (e1, d1) = both _ _ e2 in
    let (e0, d0) = both _ _ e1 in
    record {
      size = eqb-true _ _ e0;
      digit0 = digit_in _ d0;
      digit1 = digit_in _ d1;
      digit2 = digit_in _ d2;
      digit3 = digit_in _ d3;
      dash4 = eqb-true _ _ dash4;
      digit5 = digit_in _ d5;
      digit6 = digit_in _ d6;
      dash7 = eqb-true _ _ dash7;
      digit8 = digit_in _ d8;
      digit9 = digit_in _ d9;
    }

-- ---- a day's text is read as that day

ascii : (k : ℕ) → k < 10 → is_ascii_digit (48 + k) ≡ true
ascii k h = grind arith

four : (y : ℕ) → y < 10_000 → two_digits (48 + y / 1000) (48 + y / 100 % 10) * 100 + two_digits (48 + y / 10 % 10) (48 + y % 10) ≡ y
four y h = omega arith

two : (m : ℕ) → m < 100 → two_digits (48 + m / 10) (48 + m % 10) ≡ m
two m h = omega arith

form : (y m d : ℕ) → y < 10_000 → m < 100 → d < 100 → is_day_form (date_text (record { year = pos y; month = m; day = d })) ≡ true
form y m d hy hm hd =
    rw (
      ascii (y / 1000) (omega arith),
      ascii (y / 100 % 10) (omega arith),
      ascii (y / 10 % 10) (omega arith),
      ascii (y % 10) (omega arith),
      ascii (m / 10) (omega arith),
      ascii (m % 10) (omega arith),
      ascii (d / 10) (omega arith),
      ascii (d % 10) (omega arith),
    ) refl

named : (y m d : ℕ) → y < 10_000 → m < 100 → d < 100 → named_date (date_text (record { year = pos y; month = m; day = d })) ≡ record { year = pos y; month = m; day = d }
named y m d hy hm hd = rw (four y hy, two m hm, two d hd) refl

is_date-true : (p : Date) → IsDate p → is_date p ≡ true
is_date-true p h = rw (le-leb _ _ h.month_in.0, le-leb _ _ h.month_in.1, le-leb _ _ h.day_in.0, le-leb _ _ h.day_in.1) refl

named_day : (p : Date) (n : ℕ) → IsDate p → IsCalendarYear p.year → day_number p ≡ n → day_of_named p ≡ Ok n
named_day p n date year number = rw (is_date-true p date, is_calendar_year-true p.year year, number) refl

read_of : (t : List ℕ) (q : Date) → is_day_form t ≡ true → named_date t ≡ q → read_day t ≡ day_of_named q
read_of t q e f = rw e (ap day_of_named f)

whole : (p : Date) (y n : ℕ) → p.year ≡ pos y → y < 10_000 → IsDate p → IsCalendarYear p.year → day_number p ≡ n → read_day (date_text p) ≡ Ok n
whole p y n e small date year number =
    let q : Date = record { year = pos y; month = p.month; day = p.day } in
    let same : p ≡ q = ap (λ (z : ℤ). let r : Date = record { year = z; month = p.month; day = p.day } in r) e in
    let month : p.month < 100 = omega (arith, date.month_in) in
    let day : p.day < 100 = omega (arith, date.day_in, days_in_month_bounds p.year p.month) in
    ap (λ (r : Date). read_day (date_text r)) same ∙ read_of (date_text q) q (form y p.month p.day small month day) (named y p.month p.day small month day)
    ∙ ap day_of_named (sym same) ∙ named_day p n date year number

unsigned : (z : ℤ) → pos 0 ≤ℤ z → z ≡ pos (unsigned_abs z)
unsigned (pos n) h = refl
unsigned (negsuc n) h = absurd (omega (arith, signed_arith, h))

below : (z : ℤ) (y : ℕ) → z ≡ pos y → z ≤ℤ pos 2399 → y < 10_000
below z y e h = omega (arith, signed_arith, e, h)

pub texts_are_read : (n : ℕ) → n < 292_194 → read_day (day_text n) ≡ Ok n
texts_are_read n h =
    let own = days_have_dates n h in
    let year = own.1 in
    let plain = unsigned (date_of n).year (omega (arith, signed_arith, year)) in
    let small = below (date_of n).year (unsigned_abs (date_of n).year) plain year.1 in
    whole (date_of n) (unsigned_abs (date_of n).year) n plain small own.0 year own.2

-- ---- and no other text is

ten : (t : List ℕ) → length t ≡ 10
    → t ≡ slice_index t 0 ∷ slice_index t 1 ∷ slice_index t 2 ∷ slice_index t 3 ∷ slice_index t 4 ∷ slice_index t 5 ∷ slice_index t 6 ∷ slice_index t 7 ∷ slice_index t 8 ∷ slice_index t 9 ∷ []
ten (a ∷ b ∷ c ∷ d ∷ e ∷ f ∷ g ∷ h ∷ i ∷ j ∷ []) is = refl
ten t is = grind arith

-- the digits of a number of four digits, and of one of two
thousands : (a b c d : ℕ) → IsInRange 48 57 a → IsInRange 48 57 b → IsInRange 48 57 c → IsInRange 48 57 d
    → let y = two_digits a b * 100 + two_digits c d in (48 + y / 1000 ≡ a) × (48 + y / 100 % 10 ≡ b) × (48 + y / 10 % 10 ≡ c) × (48 + y % 10 ≡ d)
thousands a b c d ha hb hc hd = (omega arith, omega arith, omega arith, omega arith)

tens : (a b : ℕ) → IsInRange 48 57 a → IsInRange 48 57 b → let m = two_digits a b in (48 + m / 10 ≡ a) × (48 + m % 10 ≡ b)
tens a b ha hb = (omega arith, omega arith)

written : (t : List ℕ) → IsDayForm t → date_text (named_date t) ≡ t
written t h =
    let (y0, y1, y2, y3) = thousands _ _ _ _ h.digit0 h.digit1 h.digit2 h.digit3 in
    let (m0, m1) = tens _ _ h.digit5 h.digit6 in
    let (d0, d1) = tens _ _ h.digit8 h.digit9 in
    rw (y0, y1, y2, y3, m0, m1, d0, d1) (sym (rw (h.dash4, h.dash7) at (ten t h.size)))

-- a date that has a day
record IsRead (p : Date) (n : ℕ) : Type 0 where
  date : IsDate p
  year : IsCalendarYear p.year
  number : day_number p ≡ n

in_years : (y : ℤ) → is_calendar_year y ≡ true → IsCalendarYear y
in_years y e = grind (arith, signed_arith)

a_date : (p : Date) → is_date p ≡ true → IsDate p
a_date p e =
    let (e2, last) = both _ _ e in
    let (e1, first) = both _ _ e2 in
    let (low, high) = both _ _ e1 in
    record { month_in = (leb-true _ _ low, leb-true _ _ high); day_in = (leb-true _ _ first, leb-true _ _ last) }

named_read : (p : Date) (n : ℕ) (b c : Bool) → is_date p ≡ b → is_calendar_year p.year ≡ c
    → (let r : Result ℕ DayFault = if not b then Err NoSuchDay else if not c then Err Range else Ok (day_number p) in r) ≡ Ok n → IsRead p n
named_read p n true true e f is = record { date = a_date p e; year = in_years p.year f; number = cc is }
named_read p n true false e f is = cc is
named_read p n false c e f is = cc is

form_read : (t : List ℕ) (n : ℕ) (b : Bool) → is_day_form t ≡ b → (if not b then Err Form else day_of_named (named_date t)) ≡ Ok n
    → IsDayForm t × IsRead (named_date t) n
form_read t n true e is = (day_form t e, named_read (named_date t) n (is_date (named_date t)) (is_calendar_year (named_date t).year) refl refl is)
form_read t n false e is = cc is

pub only_texts_are_read : (t : List ℕ) (n : ℕ) → read_day t ≡ Ok n → (n < 292_194) × (t ≡ day_text n)
only_texts_are_read t n is =
    let (form, read) = form_read t n (is_day_form t) refl is in
    let day = dates_have_days (named_date t) read.date read.year in
    (omega (arith, day.0, read.number), sym (written t form) ∙ ap date_text (sym day.1 ∙ ap date_of read.number))

pub ok_text : (t : List ℕ) (r : Result ℕ DayFault) → r ≡ read_day t → IfOk r (λ n. t ≡ day_text n)
ok_text t (Ok n) is = (only_texts_are_read t n (sym is)).1
ok_text t (Err e) is = tt
