use Rattle.std.proofs.Common.{rules, ◌∙◌}
use Rattle.opa_mean.specs.Given.{base_of, facts_of}
use Rattle.opa_mean.proofs.Stepping.{by_none, by_answer, by_rule, no_lines, line_next}
use Rattle.opa_mean.proofs.determine.+determining.Goals as goal

pub determine-returns-then-below-eq0 : goal.determine-returns-then-below-eq0
determine-returns-then-below-eq0 t c = by_none (base_of c.args.base.now) (facts_of c.args.case.now) c.args.attr c.args.inst.now c.args.below c.constant.result (search rules) c.constant.ensures.everywhere

pub determine-returns-then-is_none : goal.determine-returns-then-is_none
determine-returns-then-is_none t c =
    by_answer (base_of c.args.base.now) (facts_of c.args.case.now) c.args.attr c.args.inst.now c.args.below c.of.result c.answer_line.result (search rules) c.of.ensures (search rules) c.answer_line.ensures

pub determine-returns : goal.determine-returns
determine-returns t c =
    by_rule (base_of c.args.base.now) c.args.case.now c.args.attr c.args.inst.now c.args.below c.of.result c.as_slice.result.now c.in_ok-lines.lines c.concluded_line.result (search rules) c.of.ensures (search rules)
    (c.as_slice.ensures ∙ c.in_ok-asked.ensures) c.in_ok-lines.ensures c.concluded_line.ensures

pub determine_all-loop-question-init : goal.determine_all-loop-question-init
determine_all-loop-question-init t c = no_lines (base_of c.args.base.now) (facts_of c.args.case.now) c.args.below c.new-lines.result c.new-lines.ensures

pub determine_all-loop-question-preserved : goal.determine_all-loop-question-preserved
determine_all-loop-question-preserved t c =
    line_next (base_of c.args.base.now) (facts_of c.args.case.now) c.args.below c.loop-question.lines _ c.args.asked.now c.loop-question.question-index c.question-item.result c.loop-question-test.true c.question-item.is c.in_ok-determine_one.ensures c.loop-question.invariant
