use Rattle.std.proofs.Common.{inr, subst, refl}
use Rattle.opa_verify.specs.Verdict.Named.{AreNamedUpTo}
use Rattle.opa_verify.proofs.verdict.Judged.{text_is, days_are}
use Rattle.opa_verify.proofs.verdict.Saying.{tells_name}
use Rattle.opa_verify.proofs.verdict.judging.judge_lines.Goals as goal

pub derive-requires-clause-text : goal.derive-requires-clause-text
derive-requires-clause-text c =
    let r = c.args.base.now in let s = c.args.spelled.now in
    text_is r c.args.text.now s c.args.attr c.args.inst c.in-All.lines c.requires.text c.requires.asked
    (subst (AreNamedUpTo r s.printed) c.in-All.is (subst (λ xs. AreNamedUpTo r xs c.in_ok-place.field-0) c.as_slice.ensures c.in_ok-place.ensures))

pub derive-requires-clause-read : goal.derive-requires-clause-read
derive-requires-clause-read c =
    let r = c.args.base.now in let s = c.args.spelled.now in
    record {
      spelled = s;
      told = c.requires.text;
      asked = c.requires.asked;
      day = refl;
      lines = subst (AreNamedUpTo r s.printed) c.in-All.is (subst (λ xs. AreNamedUpTo r xs c.in_ok-place.field-0) c.as_slice.ensures c.in_ok-place.ensures);
    }

pub derive-requires-clause-days : goal.derive-requires-clause-days
derive-requires-clause-days c =
    let r = c.args.base.now in let s = c.args.spelled.now in
    days_are r s.printed c.in-All.lines c.requires.text.dated (subst (AreNamedUpTo r s.printed) c.in-All.is (subst (λ xs. AreNamedUpTo r xs c.in_ok-place.field-0) c.as_slice.ensures c.in_ok-place.ensures))

pub returns-in_ok-told-in-Fault : goal.returns-in_ok-told-in-Fault
returns-in_ok-told-in-Fault c =
    let r = c.args.base.now in let s = c.args.spelled.now in
    let first = subst (AreNamedUpTo r s.printed) c.in-Fault.is (subst (λ xs. AreNamedUpTo r xs c.in_ok-place.field-0) c.as_slice.ensures c.in_ok-place.ensures) in
    let told = c.in_ok-told-in-Fault in
    tells_name r c.args.text.now c.in_ok-line-in-Fault.line told.told.verdict told.told.text told.ensures.verdict told.ensures.text
    (s, (c.requires.text, inr ((c.args.attr, c.args.inst), (c.requires.asked, (c.in-Fault.place, (c.in_ok-line-in-Fault.ensures, first))))))
