use Rattle.std.proofs.Common.{sym, subst, length}
use Rattle.std.specs.Str.{chars}
use Rattle.opa_words.specs.Cuts.{Cuts, IsCause}
use Rattle.opa_line.proofs.Zipping.{ok_weaker}
use Rattle.opa_rules.proofs.UnreadLaws.{cut_block, uncut_block}
use Rattle.opa_rules.proofs.faults.unread.headed_told.Goals as goal

pub returns-in-Ok : goal.returns-in-Ok
returns-in-Ok c =
    let text = c.as_str-text.result.now in
    ok_weaker c.first_told.result _ _
    (λ o f. cut_block c.args.first.now text c.as_str-text.ensures c.args.below.now c.as_slice.result.now o (subst (Cuts (length text) (chars text)) (sym c.as_slice.ensures.value) c.in-Ok.ensures.cut) f) c.first_told.ensures

pub returns-in_ok-told_slip-in-Err-Place : goal.returns-in_ok-told_slip-in-Err-Place
returns-in_ok-told_slip-in-Err-Place c =
    let text = c.as_str-text.result.now in
    uncut_block c.args.first.now text c.as_str-text.ensures c.args.below.now _ c.stuck_slip.result c.in_ok-told_slip-in-Err-Place.field-0
    (subst (IsCause (length text) (chars text)) c.in-Err-Place.field-0-is c.in-Err-Place.ensures.fault)
    c.stuck_slip.ensures c.in_ok-told_slip-in-Err-Place.ensures
