use Rattle.std.proofs.Common.{sym, ap, ◌∙◌}
use Rattle.opa_saved.specs.Loading.{fault_of}
use Rattle.opa_saved.proofs.AnswerLaws.{answer_put, answer_over}
use Rattle.opa_saved.proofs.put_answers.put_answer.Goals as goal

pub returns-in-Ok : goal.returns-in-Ok
returns-in-Ok c =
    let p = answer_put c.args.model.now c.args.ruled.now c.args.case.now _ c.in-Some.attr (sym c.find_attribute.ensures.value ∙ c.in-Some.is) c.args.entry c.in_ok-inst.inst c.in_ok-inst.ensures (sym c.is_unknown_answer.ensures ∙ c.if-is_unknown_answer.false) c.requires.taken
    c.answer.new.self c.in-Ok.ensures.ok in
    record { is = p.0; fits = c.in-Ok.ensures.fits; few = p.1; over = tt }

pub returns-clause-over : goal.returns-clause-over
returns-clause-over c other =
    let p = answer_over c.args.model.now c.args.ruled.now c.args.case.now _ c.in-Some.attr (sym c.find_attribute.ensures.value ∙ c.in-Some.is) c.args.entry c.in_ok-inst.inst c.in_ok-inst.ensures (sym c.is_unknown_answer.ensures ∙ c.if-is_unknown_answer.false) c.requires.taken
    c.in-Err.refusal (c.in-Err.ensures.err (λ e. other (c.fault_of.ensures ∙ ap fault_of e))) in
    (c.fault_of.ensures ∙ ap fault_of p.0, p.1)
