use Rattle.std.proofs.Common.{sym, ap, ◌∙◌, nat_lt}
use Rattle.std.specs.Prelude.{nat_le}
use Rattle.opa_case.proofs.Counting.{over_with, over_with_new}
use Rattle.opa_case.proofs.answer_faults.is_over_with.Goals as goal

pub returns-then-is_answered : goal.returns-then-is_answered
returns-then-is_answered g c line = ap (nat_lt 100000) c.answers.ensures ∙ over_with (g.S.Standing.case c.args.case.now).answers (c.args.attr.0, c.args.inst.now) line (sym c.is_answered.ensures ∙ c.if-is_answered.true)

pub returns-else-is_answered : goal.returns-else-is_answered
returns-else-is_answered g c line = ap (nat_le 100000) c.answers-else-is_answered.ensures ∙ over_with_new (g.S.Standing.case c.args.case.now).answers (c.args.attr.0, c.args.inst.now) line (sym c.is_answered.ensures ∙ c.if-is_answered.false)
