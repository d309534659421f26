use Rattle.std.proofs.Common.{arith}
use Rattle.opa_words.specs.Pieces.{seen}
use Rattle.opa_text.proofs.ChangeLaws.{change_told, no_change, not_later, change_shorter}
use Rattle.opa_text.proofs.changes.later_change.Goals as goal

pub returns-in-None-clause-change : goal.returns-in-None-clause-change
returns-in-None-clause-change c = no_change seen c.args.day (seen c.args.pieces) c.in_ok-change_at.field-0 c.in-None.is c.in_ok-change_at.ensures.value

pub returns-then-day-change-clause-change : goal.returns-then-day-change-clause-change
returns-then-day-change-clause-change c =
    (change_told seen (seen c.args.pieces) c.in_ok-change_at.field-0 c.in-Some.change c.in-Some.rest c.in-Some.is c.in_ok-change_at.ensures.value, c.if-day-change.true)

pub returns-then-day-change-clause-shorter : goal.returns-then-day-change-clause-shorter
returns-then-day-change-clause-shorter c =
    change_shorter c.in-Some.change (seen c.args.pieces) (seen c.in-Some.rest) (change_told seen (seen c.args.pieces) c.in_ok-change_at.field-0 c.in-Some.change c.in-Some.rest c.in-Some.is c.in_ok-change_at.ensures.value)

pub returns-else-day-change-clause-change : goal.returns-else-day-change-clause-change
returns-else-day-change-clause-change c =
    not_later c.args.day (seen c.args.pieces) c.in-Some.change (seen c.in-Some.rest) (change_told seen (seen c.args.pieces) c.in_ok-change_at.field-0 c.in-Some.change c.in-Some.rest c.in-Some.is c.in_ok-change_at.ensures.value) (λ h. absurd (omega (arith, h, c.if-day-change.false)))
