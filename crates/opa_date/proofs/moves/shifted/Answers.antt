use Rattle.std.proofs.Common.{sym, inl, inr, arith, FitsSigned, w32}
use Rattle.std.proofs.lemmas.Int.{to_z-of_z}
use Rattle.jiff_core.proofs.SignedLemmas.{signed_arith}
use Rattle.opa_date.proofs.Months.{reached, left}
use Rattle.opa_date.proofs.moves.shifted.Goals as goal
use Rattle.opa_date.proofs.moves.shifted.Goals.{then-later-lt1600-via-then-later-lt1600, then-later-lt1600-via-else-later-lt1600+then-later-gt2399}

pub returns-then-later-lt1600-clause-value : goal.returns-then-later-lt1600-clause-value
returns-then-later-lt1600-clause-value c =
    let e = c.date_of_day.ensures in
    let f4 : FitsSigned w32 c.args.n = c.ranges.n in
    let value = simp to_z-of_z at c.in-Ok.ensures.value in
    let month = simp to_z-of_z at c.in-Ok.ensures.month in
    let none = left c.date_of_day.result c.args.day c.args.n (e.year, e.month, e.day) c.requires.day_in c.in-Ok.later value month in
    elim c.then-later-lt1600.branch [
      | then-later-lt1600-via-then-later-lt1600 w ↦ sym (none (inl (omega (arith, signed_arith, w.if-later-lt1600.true))))
      | then-later-lt1600-via-else-later-lt1600+then-later-gt2399 w ↦ sym (none (inr (omega (arith, signed_arith, w.if-later-gt2399.true))))
    ]

pub returns-clause-value : goal.returns-clause-value
returns-clause-value c =
    let e = c.date_of_day.ensures in
    let f4 : FitsSigned w32 c.args.n = c.ranges.n in
    let value = simp to_z-of_z at c.in-Ok.ensures.value in
    let month = simp to_z-of_z at c.in-Ok.ensures.month in
    sym (reached c.date_of_day.result c.args.day c.args.n (e.year, e.month, e.day) c.requires.day_in c.in-Ok.later value month c.day_of_date.result
    (omega (arith, signed_arith, c.if-later-lt1600.false), omega (arith, signed_arith, c.if-later-gt2399.false)) c.day_of_date.ensures.value)
