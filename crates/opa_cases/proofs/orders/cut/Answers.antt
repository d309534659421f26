use Rattle.std.proofs.Common.{length, subst, sym}
use Rattle.std.specs.Str.{chars}
use Rattle.opa_words.specs.Cuts.{IsCause}
use Rattle.opa_words.proofs.OneCut.{cut_or_stuck_holds}
use Rattle.opa_cases.proofs.OrderLaws.{is_cut, short_enough, too_long}
use Rattle.opa_cases.proofs.orders.cut.Goals as goal

pub returns-then-is_long-clause-fault : goal.returns-then-is_long-clause-fault
returns-then-is_long-clause-fault c = too_long c.args.text.now (sym c.if-is_long.ensures)

pub returns-in-Ok-clause-cut : goal.returns-in-Ok-clause-cut
returns-in-Ok-clause-cut c =
    is_cut c.args.text.now c.in-Ok.found.items (short_enough (length c.args.text.now) (sym c.if-is_long.ensures)) c.utf8.text c.in-Ok.ensures.cut c.in-Ok.ensures.within c.in-Ok.ensures.kinds

pub returns-in-Err-Place-clause-fault : goal.returns-in-Err-Place-clause-fault
returns-in-Err-Place-clause-fault c = λ ps h.
    let cuts = h.2 in
    cut_or_stuck_holds (length c.args.text.now) (chars c.args.text.now) cuts.0 c.in-Err-Place.field-0-0 cuts.1 (subst (IsCause (length c.args.text.now) (chars c.args.text.now)) c.in-Err-Place.field-0-is c.in-Err-Place.ensures.fault)
