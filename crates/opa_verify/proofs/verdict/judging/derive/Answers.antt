use Rattle.std.proofs.Common.{◌≡◌, MatchOption, Some, inr, sym, subst, ap, ◌∙◌}
use Rattle.std.specs.Option.{option_copied}
use Rattle.opa_mean.specs.Given.{base_of}
use Rattle.opa_report.specs.Promises.{HaveDays}
use Rattle.opa_verify.specs.Support.Faults.{IsFirstFault}
use Rattle.opa_verify.specs.Support.Proofs.{AreHeldUp}
use Rattle.opa_verify.specs.Support.Told.{listing_of}
use Rattle.opa_verify.specs.Verdict.Judging.{asked_value}
use Rattle.opa_verify.proofs.verdict.Saying.{listed_day, tells_not_derived, tells_supported}
use Rattle.opa_verify.proofs.verdict.judging.derive.Goals as goal

pub first_fault-requires : goal.first_fault-requires
first_fault-requires c = record { days = subst HaveDays (sym c.as_slice-lines.ensures) c.requires.days }

pub supported-requires-clause-day : goal.supported-requires-clause-day
supported-requires-clause-day c =
    let r = c.args.report.now in
    let listed : asked_value r ≡ Some c.in-Some.value.now = sym (ap (λ ls. (listing_of ls).value r.attr r.inst r.day) c.as_slice-lines.ensures) ∙ sym c.listed.ensures ∙ ap option_copied c.in-Some.is in
    listed_day c.args.base.now.model r.attr r.inst r.day r.lines c.in-Some.value.now c.requires.text.printable.lines listed

pub returns-in_ok-told-in-None : goal.returns-in_ok-told-in-None
returns-in_ok-told-in-None c =
    let r = c.args.report.now in let b = base_of c.args.base.now in let lines = c.as_slice-lines.result.now in
    let held : AreHeldUp b lines = subst (λ o. MatchOption o (AreHeldUp b lines) (IsFirstFault b lines)) c.in-None.is c.in_ok-first_fault.ensures in
    let listed : asked_value r ≡ Some c.in-Some.value.now = sym (ap (λ ls. (listing_of ls).value r.attr r.inst r.day) c.as_slice-lines.ensures) ∙ sym c.listed.ensures ∙ ap option_copied c.in-Some.is in
    let told = c.in_ok-told-in-None in
    tells_supported c.args.base.now c.args.text.now r c.in-Some.value.now told.told.verdict told.told.text told.ensures.verdict told.ensures.text c.requires.text c.requires.read (subst (AreHeldUp b) c.as_slice-lines.ensures held) listed

pub returns-in_ok-told-in-Some-2 : goal.returns-in_ok-told-in-Some-2
returns-in_ok-told-in-Some-2 c =
    let r = c.args.report.now in let b = base_of c.args.base.now in let lines = c.as_slice-lines.result.now in
    let first : IsFirstFault b lines c.in-Some-2.place = subst (λ o. MatchOption o (AreHeldUp b lines) (IsFirstFault b lines)) c.in-Some-2.is c.in_ok-first_fault.ensures in
    let listed : asked_value r ≡ Some c.in-Some.value.now = sym (ap (λ ls. (listing_of ls).value r.attr r.inst r.day) c.as_slice-lines.ensures) ∙ sym c.listed.ensures ∙ ap option_copied c.in-Some.is in
    let told = c.in_ok-told-in-Some-2 in
    tells_not_derived c.args.base.now c.args.text.now c.in_ok-line-in-Some-2.line told.told.verdict told.told.text told.ensures.verdict told.ensures.text
    (r, (c.requires.text, (c.requires.read, inr (c.in-Some.value.now, (listed, (c.in-Some-2.place, (c.in_ok-line-in-Some-2.ensures, subst (λ ls. IsFirstFault b ls c.in-Some-2.place) c.as_slice-lines.ensures first)))))))
