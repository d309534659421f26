use Rattle.std.proofs.Common.{◌≡◌, ◌∷◌, sym, ap, ◌∙◌, arith}
use Rattle.std.specs.FinMap.{len}
use Rattle.std.specs.Vec.Iter.{into_iter_items}
use Rattle.std.proofs.lemmas.Result.{err_from_is_err_and}
use Rattle.opa_model.specs.Lookups.{attribute_named}
use Rattle.opa_saved.specs.Loading as meant
use Rattle.opa_saved.proofs.AnswerLaws.{grow}
use Rattle.opa_saved.proofs.put_answers.put_answers.Goals as goal

pub returns-in_err-put_answer-clause-over : goal.returns-in_err-put_answer-clause-over
returns-in_err-put_answer-clause-over c =
    let p = err_from_is_err_and c.from_residual.result c.from_residual.ensures.1 in
    let m = c.args.model.now in
    let before = c.loop-entry.case.answers in
    let x = c.in-Some.entry in
    let rest = into_iter_items c.next.new.self in
    let e : meant.put_answers m before (x ∷ rest) ≡ meant.put_answers m c.args.case.now.answers c.args.answers.items = ap (meant.put_answers m before) (sym c.in-Some.ensures.steps.0) ∙ c.loop-entry.invariant.rest in
    let more = grow m (meant.put_answer m before (attribute_named m x.point.phrase) x) rest in
    rw (p.1, p.2) (λ other. (let q = c.in_err-put_answer.ensures.over other in (q.0, omega (arith, q.1, more, ap len e))))
