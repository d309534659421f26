use Rattle.opa_line.proofs.Zipping.{ok_weaker}
use Rattle.opa_rules.proofs.UnreadLaws.{first_below, first_here}
use Rattle.opa_rules.proofs.faults.unread.first_told.Goals as goal

pub returns-in-None : goal.returns-in-None
returns-in-None c =
    ok_weaker c.lines_told.result _ _
    (λ o f. first_below c.args.first.now c.as_str-text.result.now c.as_str-text.ensures c.args.tokens.now _ c.first_part.result c.line_slip.result c.args.below.now
    c.new-words.ensures c.first_part.ensures c.line_slip.ensures.at c.next_part.result o c.in-None.is c.next_part.ensures f) c.lines_told.ensures

pub returns-in_ok-told_slip-in-Some : goal.returns-in_ok-told_slip-in-Some
returns-in_ok-told_slip-in-Some c =
    first_here c.args.first.now c.as_str-text.result.now c.as_str-text.ensures c.args.tokens.now _ c.first_part.result c.line_slip.result c.args.below.now
    c.new-words.ensures c.first_part.ensures c.line_slip.ensures.at c.in-Some.slip c.in_ok-told_slip-in-Some.field-0 c.in-Some.is c.in_ok-told_slip-in-Some.ensures
