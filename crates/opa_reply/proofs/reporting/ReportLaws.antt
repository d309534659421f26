-- What is told of reports.
use Rattle.std.proofs.Common.{◌≡◌, ℕ, ◌<◌, ◌≤◌, Bool, true, false, ◌&&◌, List, ◌++◌, length, Contains, refl, sym, ◌∙◌, ap, subst, arith}
use Rattle.std.proofs.lemmas.Bool.{lt-ltb}
use Rattle.opa_date.specs.declared.TheConstants.{DAYS}
use Rattle.opa_value.specs.declared.value.Value.{Value}
use Rattle.opa_model.specs.declared.ids.AttrId.{AttrId}
use Rattle.opa_model.specs.Models.{HasAttribute}
use Rattle.opa_cells.specs.declared.instance.InstanceId.{InstanceId}
use Rattle.opa_case.specs.Cases.{CaseView}
use Rattle.opa_case.specs.Shapes.{attribute_or}
use Rattle.opa_tree.specs.declared.rulebase.Rulebase.{Rulebase}
use Rattle.opa_mean.specs.Given.{base_of, facts_of}
use Rattle.opa_mean.specs.Mean.{Base, Facts, mean}
use Rattle.opa_mean.specs.Reports.{Entry, PointIs, InReport, point, list, member}
use Rattle.opa_mean.specs.Rulebases.{IsOf}
use Rattle.opa_mean.specs.Slots.{has_place}
use Rattle.opa_mean.specs.Uses.{Use, Point}
use Rattle.opa_mean.proofs.Everywhere.{all_of_each}
use Rattle.opa_mean.specs.Kinds.Laws.{ValuesHaveKinds}
use Rattle.opa_text.specs.Texts.{IsOfCalendar}
use Rattle.opa_report.specs.declared.lines.Report.{Report}
use Rattle.opa_report.specs.declared.lines.ReportLine.{ReportLine}
use Rattle.opa_report.specs.declared.lines.ReportLine.TheVariants as line
use Rattle.opa_report.specs.Laws.{AtMostOne}
use Rattle.opa_report.specs.Promises.{is_point, IsAbout, IsExact, ListsEntries, HasDays, IsDeclaredBy}
use Rattle.opa_report.specs.ReportLines.{IsReport}
use Rattle.opa_report.specs.Supporting as support
use Rattle.opa_report.specs.Text.Texts.{IsPrintable, ArePrintable, first_line, numbered, report_text}
use Rattle.opa_reply.specs.Reporting.Laws.{OneReportTold}
use Rattle.opa_reply.specs.Reporting.Reports.{IsReported, IsReportTold}
use Rattle.opa_reply.specs.Reporting.Shown.{refused_point}
use Rattle.opa_reply.proofs.reporting.Days.{value_is}

-- ---- what can be printed

-- a point that a report lists has its value
told_value : (b : Base) (c : Facts) (p : Use) (e : Entry) → InReport b c p e → (a : AttrId) (i : InstanceId) (d : ℕ) (v : Value) → e ≡ PointIs a i d v → mean b c a i d ≡ v
told_value b c p _ (point a' i' d' cone) a i d v e =
    let x : a' ≡ a = cc e in let y : i' ≡ i = cc e in let z : d' ≡ d = cc e in let w : mean b c a' i' d' ≡ v = cc e in
    sym (ap (λ k. mean b c k i' d') x ∙ ap (λ k. mean b c a k d') y ∙ ap (λ k. mean b c a i k) z) ∙ w
told_value b c p _ (list q j cone) a i d v e = absurd (cc e)
told_value b c p _ (member u j k l cone own above up) a i d v e = absurd (cc e)

module _ (kinds : ValuesHaveKinds) (r : Rulebase) (c : CaseView) (is : IsOf r c) (x : Report) (entries : ListsEntries r c x) (days : HasDays x) (declared : IsDeclaredBy r x) where
  line_printable : (l : ReportLine) → Contains x.lines l → IsPrintable r.model l
  line_printable (line.Point a i first last v) there =
      let span = days a i first last v there in
      let low : first ≤ last = span.0 in let high : last < DAYS = span.1 in
      let lists = support.point a i first last first v there (omega arith) low in
      let value = told_value (base_of r) (facts_of c) (Point x.attr x.inst x.day) (PointIs a i first v) ((entries (PointIs a i first v)).0 lists) a i first v refl in
      (declared (line.Point a i first last v) there, (omega (arith, low, high), (high, subst IsOfCalendar value (value_is kinds r c is a i first))))
  line_printable (line.Members q i names) there = declared (line.Members q i names) there
  line_printable (line.Member q container i) there = declared (line.Member q container i) there

  pub printable : (a : AttrId) (i : InstanceId) (d : ℕ) → HasAttribute r.model a → d < DAYS → IsAbout a i d x → ArePrintable r.model x
  printable a i d known lt about = record {
    attr = subst (HasAttribute r.model) (sym about.attr) known;
    day = subst (λ k. k < DAYS) (sym about.day) lt;
    lines = all_of_each (IsPrintable r.model) x.lines line_printable;
  }

-- ---- what is told

module _ (r : Rulebase) (c : CaseView) (a : AttrId) (i : InstanceId) (known : HasAttribute r.model a) where
  -- a declared attribute is a point where the instance has it
  point_is : is_point r c a i ≡ has_place r c a i
  point_is = ap (λ b. b && has_place r c a i) (lt-ltb a.0 (length r.model.attributes) known)

  pub none_told : (d : ℕ) (t : List ℕ) → false ≡ is_point r c a i → t ≡ refused_point → IsReportTold r c a i d t
  none_told d t none says = record { here = λ h. absurd (cc (none, point_is, h)); nowhere = λ _. says }

  pub some_told : (d : ℕ) (x : Report) (t : List ℕ) → true ≡ is_point r c a i → IsAbout a i d x → IsExact r c x → ListsEntries r c x → HasDays x → IsDeclaredBy r x → t ≡ report_text r x → IsReportTold r c a i d t
  some_told d x t some about exact entries days declared says = record {
    here = λ _. record { report = x; about = about; exact = exact; entries = entries; days = days; declared = declared; says = says };
    nowhere = λ h. absurd (cc (some, point_is, h));
  }

-- ---- a point's report has one text

module _ (r : Rulebase) (c : CaseView) where
  -- the text of what is about a point
  about_text : (a : AttrId) (i : InstanceId) (d : ℕ) (x : Report) → IsAbout a i d x → report_text r x ≡ first_line (attribute_or r.model a).phrase i d ++ numbered r 1 x.lines
  about_text a i d x about =
      ap (λ k. first_line (attribute_or r.model k).phrase x.inst x.day ++ numbered r 1 x.lines) about.attr
      ∙ ap (λ k. first_line (attribute_or r.model a).phrase k x.day ++ numbered r 1 x.lines) about.inst
      ∙ ap (λ k. first_line (attribute_or r.model a).phrase i k ++ numbered r 1 x.lines) about.day

  about_point : (a : AttrId) (i : InstanceId) (d : ℕ) (x : Report) → IsAbout a i d x → Point x.attr x.inst x.day ≡ Point a i d
  about_point a i d x about = ap (λ k. Point k x.inst x.day) about.attr ∙ ap (λ k. Point a k x.day) about.inst ∙ ap (λ k. Point a i k) about.day

  one_reported : AtMostOne → (a : AttrId) (i : InstanceId) (d : ℕ) (t u : List ℕ) → IsReported r c a i d t → IsReported r c a i d u → t ≡ u
  one_reported one a i d t u x y =
      let exact = λ (z : Report) (about : IsAbout a i d z) (e : IsExact r c z). subst (λ p. IsReport (base_of r) (facts_of c) p z.lines) (about_point a i d z about) e in
      let same : x.report.lines ≡ y.report.lines = one (base_of r) (facts_of c) (Point a i d) x.report.lines y.report.lines (exact x.report x.about x.exact) (exact y.report y.about y.exact) in
      x.says ∙ about_text a i d x.report x.about ∙ ap (λ ls. first_line (attribute_or r.model a).phrase i d ++ numbered r 1 ls) same ∙ sym (y.says ∙ about_text a i d y.report y.about)

pub one_report_told : AtMostOne → OneReportTold
one_report_told one r c a i d t u x y = go (has_place r c a i) refl
  where
    go : (b : Bool) → has_place r c a i ≡ b → t ≡ u
    go true e = one_reported r c one a i d t u (x.here e) (y.here e)
    go false e = x.nowhere e ∙ sym (y.nowhere e)
