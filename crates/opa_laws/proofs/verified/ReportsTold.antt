-- What is told of a point's report is the text of a report of a clean case.
use Rattle.std.proofs.Common.{◌≡◌, ◌∙◌, ◌<◌, ◌^◌, ℕ, true, List, length, refl, sym, ap, subst}
use Rattle.std.specs.Prelude.{◌&&◌}
use Rattle.std.proofs.lemmas.Bool.{lt-ltb}
use Rattle.opa_date.specs.declared.TheConstants.{DAYS}
use Rattle.opa_model.specs.declared.ids.AttrId.{AttrId}
use Rattle.opa_model.specs.Models.{HasAttribute}
use Rattle.opa_cells.specs.declared.instance.InstanceId.{InstanceId}
use Rattle.opa_case.specs.Cases.{CaseView}
use Rattle.opa_tree.specs.declared.rulebase.Rulebase.{Rulebase}
use Rattle.opa_mean.specs.Rulebases.{IsOf}
use Rattle.opa_mean.specs.Slots.{has_place}
use Rattle.opa_report.specs.Promises.{is_point, IsAbout}
use Rattle.opa_report.specs.declared.lines.Report.{Report}
use Rattle.opa_reply.specs.Reporting.Reports.{IsReportTold}
use Rattle.opa_verify.specs.Verdict.Fine.{IsPrintableBase, IsPrintableCase}
use Rattle.opa_verify.specs.Verdict.OfCases.{IsOfCase}
use Rattle.opa_laws.specs.Verified.Laws.{ReportsAreOfCases}

point_is : (r : Rulebase) (c : CaseView) (a : AttrId) (i : InstanceId) → HasAttribute r.model a → has_place r c a i ≡ true → is_point r c a i ≡ true
point_is r c a i known there = ap (λ b. b && has_place r c a i) (lt-ltb a.0 (length r.model.attributes) known) ∙ there

about_point : (r : Rulebase) (c : CaseView) (a : AttrId) (i : InstanceId) (d : ℕ) (x : Report) → IsAbout a i d x → is_point r c a i ≡ true → is_point r c x.attr x.inst ≡ true
about_point r c a i d x about h = ap (λ k. is_point r c k x.inst) about.attr ∙ ap (λ k. is_point r c a k) about.inst ∙ h

-- the text is that of a report of the case, on that point at that day
pub record IsOfPoint (r : Rulebase) (c : CaseView) (a : AttrId) (i : InstanceId) (d : ℕ) (text : List ℕ) : Type 0 where
  pub of : IsOfCase r text
  pub given : of.given ≡ c
  pub attr : of.report.attr ≡ a
  pub inst : of.report.inst ≡ i
  pub day : of.report.day ≡ d

pub told_of_point : (r : Rulebase) (c : CaseView) → IsPrintableBase r → IsOf r c → IsPrintableCase c
    → (a : AttrId) (i : InstanceId) (d : ℕ) → HasAttribute r.model a → d < DAYS → has_place r c a i ≡ true → (text : List ℕ) → length text < 2 ^ 64 → IsReportTold r c a i d text → IsOfPoint r c a i d text
told_of_point r c base fits own a i d known day there text few told =
    let h = told.here there in
    let of : IsOfCase r text = record {
      base = base;
      given = c;
      fits = fits;
      own = own;
      report = h.report;
      point = about_point r c a i d h.report h.about (point_is r c a i known there);
      day = subst (λ k. k < DAYS) (sym h.about.day) day;
      exact = h.exact;
      entries = h.entries;
      days = h.days;
      declared = h.declared;
      told = sym h.says;
      few = few;
    } in
    record { of = of; given = refl; attr = h.about.attr; inst = h.about.inst; day = h.about.day }

pub reports_are_of_cases_hold : ReportsAreOfCases
reports_are_of_cases_hold r c base fits own a i d known day there text few told = (told_of_point r c base fits own a i d known day there text few told).of
