use Rattle.std.proofs.Common.{None, Some, sym, ◌∙◌}
use Rattle.opa_session.proofs.infer.Accepted.{answerable, refused, silent, telling}
use Rattle.opa_session.proofs.infer.coming.coming_answer.Goals as goal

pub returns-in-Some-clause-err : goal.returns-in-Some-clause-err
returns-in-Some-clause-err c = refused _ c.in-Some.refusal c.in-Some.ensures

pub returns-then-is_unknown_answer-clause-may : goal.returns-then-is_unknown_answer-clause-may
returns-then-is_unknown_answer-clause-may c =
    answerable c.args.base.now c.args.case.now c.requires.fits c.models_are_shapes.ensures c.step_fits.ensures c.args.attr c.args.inst.now c.requires.declared c.args.line None (sym c.in_default.is ∙ c.answer_refusal.ensures)
    (silent c.args.case.now c.args.attr c.args.inst.now c.args.line (sym c.is_unknown_answer.ensures ∙ c.if-is_unknown_answer.true)) tt

pub returns-else-is_unknown_answer-clause-may : goal.returns-else-is_unknown_answer-clause-may
returns-else-is_unknown_answer-clause-may c =
    let telling_line = sym c.is_unknown_answer.ensures ∙ c.if-is_unknown_answer.false in
    answerable c.args.base.now c.args.case.now c.requires.fits c.models_are_shapes.ensures c.step_fits.ensures c.args.attr c.args.inst.now c.requires.declared c.args.line (Some c.args.line) (sym c.in_default.is ∙ c.answer_refusal.ensures)
    (telling c.args.case.now c.args.attr c.args.inst.now c.args.line telling_line) telling_line
