use Rattle.std.proofs.Common.{◌≡◌, ◌-◌, ◌≤◌, ◌<◌, arith, sym, pos, ◌+ℤ◌}
use Rattle.jiff_core.proofs.SignedLemmas.{signed_arith}
use Rattle.opa_date.specs.Gregorian.{date_of}
use Rattle.opa_date.specs.Moves.{years_later}
use Rattle.opa_date.proofs.YearsApart.{year_order, all_years, one_less, between_is}
use Rattle.opa_date.proofs.years.years_between.Goals as goal

pub overflow_sub-years : goal.overflow_sub-years
overflow_sub-years c =
    let order = year_order c.args.start c.args.end c.requires.start_in c.requires.end_in c.if-end-start.false in
    omega (arith, signed_arith, order, c.year_of.ensures.value, c.year_of-2.ensures.value)

pub overflow_sub-result : goal.overflow_sub-result
overflow_sub-result c =
    let order = year_order c.args.start c.args.end c.requires.start_in c.requires.end_in c.if-end-start.false in
    let apart : (date_of c.args.end).year ≡ (date_of c.args.start).year +ℤ pos (c.year_of.result - c.year_of-2.result) =
    omega (arith, signed_arith, order, c.year_of.ensures.value, c.year_of-2.ensures.value) in
    let over : c.args.end < years_later c.args.start (c.year_of.result - c.year_of-2.result) = omega (arith, c.anniversary.ensures, c.if-anniversary-end.false) in
    (one_less c.args.start c.args.end (c.year_of.result - c.year_of-2.result) c.requires.start_in c.requires.end_in apart c.if-end-start.false over).0

pub returns-then-anniversary-end-clause-greatest : goal.returns-then-anniversary-end-clause-greatest
returns-then-anniversary-end-clause-greatest c =
    let order = year_order c.args.start c.args.end c.requires.start_in c.requires.end_in c.if-end-start.false in
    let apart : (date_of c.args.end).year ≡ (date_of c.args.start).year +ℤ pos (c.year_of.result - c.year_of-2.result) =
    omega (arith, signed_arith, order, c.year_of.ensures.value, c.year_of-2.ensures.value) in
    let reaches : years_later c.args.start (c.year_of.result - c.year_of-2.result) ≤ c.args.end = omega (arith, c.anniversary.ensures, c.if-anniversary-end.true) in
    all_years c.args.start c.args.end (c.year_of.result - c.year_of-2.result) c.requires.start_in c.requires.end_in apart reaches

pub returns-then-anniversary-end-clause-value : goal.returns-then-anniversary-end-clause-value
returns-then-anniversary-end-clause-value c =
    let greatest = returns-then-anniversary-end-clause-greatest c in
    sym (between_is c.args.start c.args.end (c.year_of.result - c.year_of-2.result) c.if-end-start.false (omega (arith, c.year_of.ensures.bound, c.year_of-2.ensures.bound)) greatest)

pub returns-else-anniversary-end-clause-greatest : goal.returns-else-anniversary-end-clause-greatest
returns-else-anniversary-end-clause-greatest c =
    let order = year_order c.args.start c.args.end c.requires.start_in c.requires.end_in c.if-end-start.false in
    let apart : (date_of c.args.end).year ≡ (date_of c.args.start).year +ℤ pos (c.year_of.result - c.year_of-2.result) =
    omega (arith, signed_arith, order, c.year_of.ensures.value, c.year_of-2.ensures.value) in
    let over : c.args.end < years_later c.args.start (c.year_of.result - c.year_of-2.result) = omega (arith, c.anniversary.ensures, c.if-anniversary-end.false) in
    (one_less c.args.start c.args.end (c.year_of.result - c.year_of-2.result) c.requires.start_in c.requires.end_in apart c.if-end-start.false over).1

pub returns-else-anniversary-end-clause-value : goal.returns-else-anniversary-end-clause-value
returns-else-anniversary-end-clause-value c =
    let greatest = returns-else-anniversary-end-clause-greatest c in
    sym (between_is c.args.start c.args.end (c.year_of.result - c.year_of-2.result - 1) c.if-end-start.false (omega (arith, c.year_of.ensures.bound, c.year_of-2.ensures.bound)) greatest)
