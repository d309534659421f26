-- What holds of the texts of reports.
use Rattle.std.specs.Prelude.{◌≡◌, ◌<◌, ◌^◌, ℕ, List, length}
use Rattle.opa_case.specs.Cases.{CaseView, IsLive}
use Rattle.opa_tree.specs.declared.rulebase.Rulebase.{Rulebase}
use Rattle.opa_mean.specs.Rulebases.{IsOf, value_at}
use Rattle.opa_report.specs.Promises.{ListsEntries, HasDays}
use Rattle.opa_report.specs.declared.lines.Report.{Report}
use Rattle.opa_report.specs.Text.Texts.{ArePrintable, report_text}
use Rattle.opa_verify.specs.Verdict.Judging.{HoldsUp, IsUpheld, Judges}
use Rattle.opa_verify.specs.Verdict.OfCases.{IsOfCase}
use Rattle.opa_verify.specs.Verdict.Telling.{SaysSupported, Tells, supported_text}
use Rattle.opa_verify.specs.declared.verdict.verdict.Verdict.{Verdict}
use Rattle.opa_verify.specs.declared.verdict.verdict.Verdict.TheVariants as verdict

-- a report of a case holds up: all of its lines are held up, and the value of its point is listed
abbrev pub ReportsHoldUp : Type 0
ReportsHoldUp = (r : Rulebase) (c : CaseView) → IsOf r c → (x : Report) → IsLive c x.inst → ListsEntries r c x → HasDays x → ArePrintable r.model x → HoldsUp r (report_text r x) x

-- so the text of a report of a clean case is upheld
abbrev pub ReportsAreUpheld : Type 0
ReportsAreUpheld = (r : Rulebase) (text : List ℕ) → IsOfCase r text → IsUpheld r text

-- a text, of fewer than 2^64 bytes as each text, has at most one verdict
abbrev pub OneVerdict : Type 0
OneVerdict = (r : Rulebase) (text : List ℕ) → length text < 2 ^ 64 → (v w : Verdict) → Judges r text v → Judges r text w → v ≡ w

-- and at most one thing is told of it
abbrev pub OneTelling : Type 0
OneTelling = (r : Rulebase) (text : List ℕ) → length text < 2 ^ 64 → (v w : Verdict) (said other : List ℕ) → Tells r text v said → Tells r text w other → (v ≡ w) × (said ≡ other)

-- Yes is the verdict on the text of a report of a case
abbrev pub ReportsGetYes : Type 0
ReportsGetYes = (r : Rulebase) (text : List ℕ) (v : Verdict) → IsOfCase r text → Judges r text v → v ≡ verdict.Yes

-- so what is told of such a text says that its value is supported
abbrev pub ReportsAreSupported : Type 0
ReportsAreSupported = (r : Rulebase) (text said : List ℕ) (v : Verdict) → IsOfCase r text → Tells r text v said → SaysSupported r text said

-- and tells the value that the case gives the report's point on its day
abbrev pub ReportsTellValues : Type 0
ReportsTellValues = (r : Rulebase) (text said : List ℕ) (v : Verdict) (of : IsOfCase r text) → Tells r text v said → said ≡ supported_text r of.report (value_at r of.given of.report.attr of.report.inst of.report.day)
