use Rattle.std.proofs.Common.{sym, subst}
use Rattle.std.proofs.lemmas.Result.{IfOk-weaker}
use Rattle.opa_verify.specs.Spelling.Lines.{lined}
use Rattle.opa_verify.specs.Spelling.Spelling.{Reads}
use Rattle.opa_verify.specs.Spelling.Reading.{IsReadFrom, IsAsked, asked_line}
use Rattle.opa_verify.proofs.spelling.Whole.{no_first_line, no_head}
use Rattle.opa_verify.proofs.spelling.reading.read_report.Goals as goal

pub returns-in-None : goal.returns-in-None
returns-in-None c = IfOk-weaker c.broken_at.result _ _ (λ r e. subst (IsReadFrom c.args.text.now) (sym e) (no_first_line c.args.text.now c.in-None.ensures.lines)) c.broken_at.ensures

pub returns-in-None-2 : goal.returns-in-None-2
returns-in-None-2 c =
    IfOk-weaker c.broken_at-in-None-2.result _ _ (λ r e. subst (IsReadFrom c.args.text.now) (sym e)
    (no_head c.args.text.now c.in-Some.line.now (lined c.in-Some.rest.now) c.in-Some.ensures.lines (subst (λ o. Reads IsAsked asked_line c.in-Some.line.now o) c.in-None-2.is c.in_ok-head_in-in-Some.ensures)))
    c.broken_at-in-None-2.ensures
