use Rattle.std.proofs.Common.{sym, subst, length}
use Rattle.std.specs.Str.{chars}
use Rattle.opa_words.specs.Cuts.{Cuts, IsCause}
use Rattle.opa_line.proofs.Zipping.{ok_weaker}
use Rattle.opa_rules.proofs.UnreadLaws.{cut_line, uncut_line}
use Rattle.opa_rules.proofs.faults.unread.line_told.Goals as goal

pub returns-in-Ok : goal.returns-in-Ok
returns-in-Ok c =
    let text = c.as_str-text.result.now in
    ok_weaker c.told_if.result _ _
    (λ o e. cut_line c.args.line.now text c.as_str-text.ensures c.args.below c.part_at-part.result c.args.later.now c.as_slice.result.now c.below_slip-slip.result o
    (subst (Cuts (length text) (chars text)) (sym c.as_slice.ensures.value) c.in-Ok.ensures.cut) c.part_at-part.ensures c.below_slip-slip.ensures.at e) c.told_if.ensures

pub returns-in_ok-told_slip-in-Err-Place : goal.returns-in_ok-told_slip-in-Err-Place
returns-in_ok-told_slip-in-Err-Place c =
    let text = c.as_str-text.result.now in
    uncut_line c.args.line.now text c.as_str-text.ensures c.args.below c.args.later.now _ c.stuck_slip.result c.in_ok-told_slip-in-Err-Place.field-0
    (subst (IsCause (length text) (chars text)) c.in-Err-Place.field-0-is c.in-Err-Place.ensures.fault)
    (rw c.in-Err-Place.field-0-is at c.stuck_slip.ensures) (rw c.in-Err-Place.field-0-is at c.in_ok-told_slip-in-Err-Place.ensures)
