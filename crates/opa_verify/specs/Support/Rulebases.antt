-- What holds of reports over every accepted rulebase and every case that fits it.
use Rattle.std.specs.Prelude.{◌≡◌, ℕ, List, Some}
use Rattle.opa_value.specs.declared.value.Value.{Value}
use Rattle.opa_model.specs.declared.ids.AttrId.{AttrId}
use Rattle.opa_cells.specs.declared.instance.InstanceId.{InstanceId}
use Rattle.opa_case.specs.Cases.{CaseView, IsLive}
use Rattle.opa_tree.specs.declared.rulebase.Rulebase.{Rulebase}
use Rattle.opa_mean.specs.Given.{base_of}
use Rattle.opa_mean.specs.Rulebases.{IsOf, Supports, value_at}
use Rattle.opa_report.specs.Supporting.{Lists}
use Rattle.opa_report.specs.declared.lines.Report.{Report}
use Rattle.opa_report.specs.declared.lines.ReportLine.{ReportLine}
use Rattle.opa_report.specs.Promises.{ListsEntries, HasDays}
use Rattle.opa_verify.specs.Support.Proofs.{AreHeldUp}
use Rattle.opa_verify.specs.Support.Told.{listing_of}

-- where every line is held up, the lines support each value that they list
abbrev pub HeldUpSupports : Type 0
HeldUpSupports = (r : Rulebase) (lines : List ReportLine) → AreHeldUp (base_of r) lines
    → (a : AttrId) (i : InstanceId) (d : ℕ) (v : Value) → (listing_of lines).value a i d ≡ Some v → Supports r (Lists lines) a i d v

-- where the lines of a report list its entries, and no run is empty, they are held up, and the value of its point is listed
abbrev pub ReportsAreHeldUp : Type 0
ReportsAreHeldUp = (r : Rulebase) (c : CaseView) → IsOf r c → (x : Report) → IsLive c x.inst → ListsEntries r c x → HasDays x
    → AreHeldUp (base_of r) x.lines × ((listing_of x.lines).value x.attr x.inst x.day ≡ Some (value_at r c x.attr x.inst x.day))
