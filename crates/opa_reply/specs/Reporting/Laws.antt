-- What the definitions of what is told come to.
use Rattle.std.specs.Prelude.{◌≡◌, ℕ, List}
use Rattle.opa_model.specs.declared.ids.AttrId.{AttrId}
use Rattle.opa_cells.specs.declared.instance.InstanceId.{InstanceId}
use Rattle.opa_case.specs.Cases.{CaseView}
use Rattle.opa_tree.specs.declared.rulebase.Rulebase.{Rulebase}
use Rattle.opa_reply.specs.Reporting.Reports.{IsReportTold}

-- A point's report has one text.
abbrev pub OneReportTold : Type 0
OneReportTold = (r : Rulebase) (c : CaseView) (a : AttrId) (i : InstanceId) (d : ℕ) (t u : List ℕ) → IsReportTold r c a i d t → IsReportTold r c a i d u → t ≡ u
