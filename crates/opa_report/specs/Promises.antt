-- What is promised of a report.
use Rattle.std.specs.Prelude.{◌≡◌, ◌↔◌, ◌<◌, ◌≤◌, ℕ, Bool, ◌&&◌, nat_lt, length, List, Contains}
use Rattle.opa_date.specs.declared.TheConstants.{DAYS}
use Rattle.opa_value.specs.declared.value.Value.{Value}
use Rattle.opa_model.specs.declared.ids.AttrId.{AttrId}
use Rattle.opa_model.specs.declared.lists.Lists.{Lists}
use Rattle.opa_cells.specs.declared.instance.InstanceId.{InstanceId}
use Rattle.opa_case.specs.Cases.{CaseView}
use Rattle.opa_tree.specs.declared.rulebase.Rulebase.{Rulebase}
use Rattle.opa_mean.specs.Given.{base_of, facts_of}
use Rattle.opa_mean.specs.Reports.{Entry, InReport}
use Rattle.opa_mean.specs.Rulebases.{Supports, value_at}
use Rattle.opa_mean.specs.Slots.{has_place}
use Rattle.opa_mean.specs.Uses.{Use, Point}
use Rattle.opa_report.specs.declared.lines.Report.{Report}
use Rattle.opa_report.specs.declared.lines.ReportLine.{ReportLine}
use Rattle.opa_report.specs.declared.lines.ReportLine.TheVariants as line
use Rattle.opa_report.specs.ReportLines.{IsReport}
use Rattle.opa_report.specs.Supporting as support

-- the attribute is declared, and the instance is live and of its entity
abbrev pub is_point : Rulebase → CaseView → AttrId → InstanceId → Bool
is_point r c a i = nat_lt a.0 (length r.model.attributes) && has_place r c a i

-- it is about that point
pub record IsAbout (a : AttrId) (i : InstanceId) (d : ℕ) (x : Report) : Type 0 where
  pub attr : x.attr ≡ a
  pub inst : x.inst ≡ i
  pub day : x.day ≡ d

-- its lines are those of its point's cone, and of no other
abbrev pub IsExact : Rulebase → CaseView → Report → Type 0
IsExact r c x = IsReport (base_of r) (facts_of c) (Point x.attr x.inst x.day) x.lines

-- what its lines list fixes the value: every case that has it, and in which the instance is live, gives that value
abbrev pub SupportsValue : Rulebase → CaseView → Report → Type 0
SupportsValue r c x = Supports r (support.Lists x.lines) x.attr x.inst x.day (value_at r c x.attr x.inst x.day)

-- its lines list exactly the entries of the report
abbrev pub ListsEntries : Rulebase → CaseView → Report → Type 0
ListsEntries r c x = (e : Entry) → support.Lists x.lines e ↔ InReport (base_of r) (facts_of c) (Point x.attr x.inst x.day) e

-- no run is empty, and each ends within the calendar
abbrev pub HaveDays : List ReportLine → Type 0
HaveDays lines = (a : AttrId) (i : InstanceId) (first last : ℕ) (v : Value) → Contains lines (line.Point a i first last v) → (first ≤ last) × (last < DAYS)

abbrev pub HasDays : Report → Type 0
HasDays x = HaveDays x.lines

-- the attribute, or the relation, of a line is declared
abbrev pub LineIsDeclared : Lists → ReportLine → Type 0
LineIsDeclared m (line.Point a i first last v) = a.0 < length m.attributes
LineIsDeclared m (line.Members q i names) = q.0 < length m.relations
LineIsDeclared m (line.Member q container i) = q.0 < length m.relations

abbrev pub IsDeclaredBy : Rulebase → Report → Type 0
IsDeclaredBy r x = (l : ReportLine) → Contains x.lines l → LineIsDeclared r.model l

-- all of it
pub record Keeps (r : Rulebase) (c : CaseView) (a : AttrId) (i : InstanceId) (d : ℕ) (x : Report) : Type 0 where
  pub point : IsAbout a i d x
  pub exact : IsExact r c x
  pub supports : SupportsValue r c x
  pub entries : ListsEntries r c x
  pub days : HasDays x
  pub declared : IsDeclaredBy r x
