-- What the lines of a report list, and that it fixes the value.
use Rattle.std.specs.Prelude.{ℕ, ◌<◌, ◌≤◌, List, Option, Contains}
use Rattle.opa_date.specs.declared.TheConstants.{DAYS}
use Rattle.opa_value.specs.declared.value.Value.{Value}
use Rattle.opa_model.specs.declared.ids.AttrId.{AttrId}
use Rattle.opa_model.specs.declared.ids.RelId.{RelId}
use Rattle.opa_cells.specs.declared.instance.InstanceId.{InstanceId}
use Rattle.opa_case.specs.Cases.{CaseView, IsLive}
use Rattle.opa_tree.specs.declared.rulebase.Rulebase.{Rulebase}
use Rattle.opa_mean.specs.Given.{base_of, facts_of}
use Rattle.opa_mean.specs.Mean.{Base, Facts}
use Rattle.opa_mean.specs.Reports.{Entry, PointIs, ListIs, MemberIs, InCone}
use Rattle.opa_mean.specs.Rulebases.{IsOf, Supports, value_at}
use Rattle.opa_mean.specs.Uses.{Use, Point, Listed}
use Rattle.opa_report.specs.declared.lines.ReportLine.{ReportLine}
use Rattle.opa_report.specs.declared.lines.ReportLine.TheVariants as line
use Rattle.opa_report.specs.ReportLines.{slots, keys, IsOwned, IsReport}

-- a point line lists its value for each of its days, a members line its list, a member line its container
pub data Lists (lines : List ReportLine) : Entry → Type 0 where
  point : (a : AttrId) (i : InstanceId) (first last d : ℕ) (v : Value) → Contains lines (line.Point a i first last v) → first ≤ d → d ≤ last → Lists lines (PointIs a i d v)
  list : (r : RelId) (i : InstanceId) (names : Option (List (List ℕ))) → Contains lines (line.Members r i names) → Lists lines (ListIs r i names)
  member : (r : RelId) (k j : InstanceId) → Contains lines (line.Member r k j) → Lists lines (MemberIs j k)

-- the cone lies in the slots and the keys of the case, on days of the calendar
pub record LiesIn (b : Base) (c : Facts) (p : Use) : Type 0 where
  pub points : (a : AttrId) (i : InstanceId) (d : ℕ) → InCone b c p (Point a i d) → (d < DAYS) × Contains (slots b c) (a, i)
  pub lists : (r : RelId) (i : InstanceId) → InCone b c p (Listed r i) → Contains (keys b c) (r, i)
  pub instances : (j : InstanceId) → IsOwned b c p j → Contains c.instances j

-- The report of a point supports its value: every case that has what its lines list, and in which the instance is live,
-- gives the point that value.
abbrev pub ReportSupports : Type 0
ReportSupports = (r : Rulebase) (c : CaseView) → IsOf r c → (a : AttrId) (i : InstanceId) (d : ℕ) → IsLive c i → LiesIn (base_of r) (facts_of c) (Point a i d) → (lines : List ReportLine) → IsReport (base_of r) (facts_of c) (Point a i d) lines
    → Supports r (Lists lines) a i d (value_at r c a i d)
