use Rattle.std.proofs.Common.{sym, ap, ◌∙◌, nat_lt}
use Rattle.opa_case.proofs.Counting.{over_without, over_without_one}
use Rattle.opa_case.proofs.answer_faults.is_over_without.Goals as goal

pub returns-then-is_answered : goal.returns-then-is_answered
returns-then-is_answered g c = ap (nat_lt 100001) c.answers.ensures ∙ over_without (g.S.Standing.case c.args.case.now).answers (c.args.attr.0, c.args.inst.now) (sym c.is_answered.ensures ∙ c.if-is_answered.true)

pub returns-else-is_answered : goal.returns-else-is_answered
returns-else-is_answered g c = ap (nat_lt 100000) c.answers-else-is_answered.ensures ∙ over_without_one (g.S.Standing.case c.args.case.now).answers (c.args.attr.0, c.args.inst.now) (sym c.is_answered.ensures ∙ c.if-is_answered.false)
