-- What is told of a point's report.
use Rattle.std.specs.Prelude.{◌≡◌, ℕ, List, true, false}
use Rattle.opa_model.specs.declared.ids.AttrId.{AttrId}
use Rattle.opa_cells.specs.declared.instance.InstanceId.{InstanceId}
use Rattle.opa_case.specs.Cases.{CaseView}
use Rattle.opa_tree.specs.declared.rulebase.Rulebase.{Rulebase}
use Rattle.opa_mean.specs.Slots.{has_place}
use Rattle.opa_report.specs.declared.lines.Report.{Report}
use Rattle.opa_report.specs.Promises.{IsAbout, IsExact, ListsEntries, HasDays, IsDeclaredBy}
use Rattle.opa_report.specs.Text.Texts.{report_text}
use Rattle.opa_reply.specs.Reporting.Shown.{refused_point}

-- The text of the point's report, which lists just what is in the report of the point, on days of the calendar, of what is declared.
pub record IsReported (r : Rulebase) (c : CaseView) (a : AttrId) (i : InstanceId) (d : ℕ) (text : List ℕ) : Type 0 where
  pub report : Report
  pub about : IsAbout a i d report
  pub exact : IsExact r c report
  pub entries : ListsEntries r c report
  pub days : HasDays report
  pub declared : IsDeclaredBy r report
  pub says : text ≡ report_text r report

-- The text of the report of a declared attribute, where the instance has the attribute.
pub record IsReportTold (r : Rulebase) (c : CaseView) (a : AttrId) (i : InstanceId) (d : ℕ) (text : List ℕ) : Type 0 where
  pub here : has_place r c a i ≡ true → IsReported r c a i d text
  pub nowhere : has_place r c a i ≡ false → text ≡ refused_point
