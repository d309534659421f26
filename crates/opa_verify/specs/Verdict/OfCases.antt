-- Texts of reports of cases.
use Rattle.std.specs.Prelude.{◌≡◌, ◌<◌, ◌^◌, ℕ, true, List, length}
use Rattle.opa_date.specs.declared.TheConstants.{DAYS}
use Rattle.opa_case.specs.Cases.{CaseView}
use Rattle.opa_tree.specs.declared.rulebase.Rulebase.{Rulebase}
use Rattle.opa_mean.specs.Rulebases.{IsOf}
use Rattle.opa_report.specs.Promises.{is_point, IsExact, ListsEntries, HasDays, IsDeclaredBy}
use Rattle.opa_report.specs.declared.lines.Report.{Report}
use Rattle.opa_report.specs.Text.Texts.{report_text}
use Rattle.opa_verify.specs.Verdict.Fine.{IsPrintableBase, IsPrintableCase}

-- The text, of fewer than 2^64 bytes as each text, is that of the report of a point of a case which fits the rulebase: it has the
-- lines of the point's cone, and lists just what the report of the point does. Rules can read the rulebase's model, its constants
-- and the places of its rules can be printed, and the case is clean.
pub record IsOfCase (r : Rulebase) (text : List ℕ) : Type 0 where
  pub base : IsPrintableBase r
  pub given : CaseView
  pub fits : IsOf r given
  pub own : IsPrintableCase given
  pub report : Report
  pub point : is_point r given report.attr report.inst ≡ true
  pub day : report.day < DAYS
  pub exact : IsExact r given report
  pub entries : ListsEntries r given report
  pub days : HasDays report
  pub declared : IsDeclaredBy r report
  pub told : report_text r report ≡ text
  pub few : length text < 2 ^ 64
