-- Which lines of a report are held up, and what a report fixes that has only such lines.
use Rattle.std.specs.Prelude.{◌≡◌, ℕ, ◌<◌, ◌≤◌, length, true, List, Option, None, Some, Contains, [], ◌∷◌, ◌↔◌}
use Rattle.std.specs.Option.{option_map}
use Rattle.opa_value.specs.declared.value.Value.{Value}
use Rattle.opa_model.specs.declared.ids.AttrId.{AttrId}
use Rattle.opa_model.specs.declared.ids.RelId.{RelId}
use Rattle.opa_cells.specs.declared.instance.InstanceId.{InstanceId}
use Rattle.opa_case.specs.Live.{Names}
use Rattle.opa_tree.specs.declared.rules.Rule.{Rule}
use Rattle.opa_tree.specs.Rules.{rule_of}
use Rattle.opa_mean.specs.Mean.{Base, Facts, IsLive, fitted, mean}
use Rattle.opa_mean.specs.Bases.{IsBase}
use Rattle.opa_mean.specs.Completion.{AreFacts}
use Rattle.opa_mean.specs.Reports.{Entry, InReport, Fixes}
use Rattle.opa_mean.specs.Uses.{Point}
use Rattle.opa_verify.specs.Listed.Listings.{Listing}
use Rattle.opa_report.specs.Supporting.{Lists}
use Rattle.opa_report.specs.declared.lines.ReportLine.{ReportLine}
use Rattle.opa_report.specs.declared.lines.ReportLine.TheVariants as line
use Rattle.opa_verify.specs.Support.Told.{listing_of}
use Rattle.opa_verify.specs.Listed.Ones.{is_single}
use Rattle.opa_verify.specs.Listed.Seen.{seen}
use Rattle.opa_verify.specs.Listed.Ways.{is_rooted}

-- what the rule of an attribute concludes over what is listed, or that it is missing
abbrev pub concluded_from : Base → Listing → Rule → AttrId → InstanceId → ℕ → Option Value
concluded_from b k rule a i d = option_map (fitted b.shape a) (seen b.shape k rule.expr (i ∷ []) d)

abbrev pub IsConcluded : Base → Listing → Option Rule → AttrId → InstanceId → ℕ → Value → Type 0
IsConcluded b k None a i d v = Unit {0}
IsConcluded b k (Some rule) a i d v = concluded_from b k rule a i d ≡ Some v

-- A line is held up: its instance has listed containers up to the global one, and where its attribute has a rule, this
-- concludes its value on each of its days.
abbrev pub IsHeldUp : Base → Listing → ReportLine → Type 0
IsHeldUp b k (line.Point a i s t v) = (is_rooted k.container i ≡ true) × ((d : ℕ) → s ≤ d → d ≤ t → IsConcluded b k (rule_of b.rules a) a i d v)
IsHeldUp b k (line.Members r i names) = is_rooted k.container i ≡ true
IsHeldUp b k (line.Member r j i) = Unit {0}

abbrev pub AreHeldUp : Base → List ReportLine → Type 0
AreHeldUp b lines = (l : ReportLine) → Contains lines l → IsHeldUp b (listing_of lines) l

-- where every line is held up, the lines fix each value that they list
abbrev pub HeldUpFixes : Type 0
HeldUpFixes = (b : Base) (lines : List ReportLine) → IsBase b → AreHeldUp b lines
    → (a : AttrId) (i : InstanceId) (d : ℕ) (v : Value) → (listing_of lines).value a i d ≡ Some v → Fixes b (Lists lines) a i d v

-- the lines list what the report of a point does, and nothing else
pub record ListsReport (b : Base) (c : Facts) (a : AttrId) (i : InstanceId) (d : ℕ) (lines : List ReportLine) : Type 0 where
  pub entries : (x : Entry) → Lists lines x ↔ InReport b c (Point a i d) x
  pub no_empty_run : (m : AttrId) (j : InstanceId) (s t : ℕ) (v : Value) → Contains lines (line.Point m j s t v) → s ≤ t

-- The containers of a case are of earlier entities, a relation to one lists at most one name, and `For` stands over such relations alone.
pub record IsOrderly (b : Base) (c : Facts) : Type 0 where
  pub falls : (i j : InstanceId) → IsLive c i → c.container i ≡ Some j → j.entity.0 < i.entity.0
  pub one : (r : RelId) (i : InstanceId) (names : Names) → IsLive c i → b.shape.one r ≡ true → c.members r i ≡ Some names → length names ≤ 1
  pub single : (a : AttrId) (rule : Rule) → rule_of b.rules a ≡ Some rule → is_single b.shape.one rule.expr ≡ true

-- where the lines list what the report of a point does, every line is held up, and the value of the point is listed
abbrev pub ReportIsHeldUp : Type 0
ReportIsHeldUp = (b : Base) (c : Facts) → IsBase b → AreFacts b.shape c → IsOrderly b c → (a : AttrId) (i : InstanceId) (d : ℕ) → IsLive c i
    → (lines : List ReportLine) → ListsReport b c a i d lines → AreHeldUp b lines × ((listing_of lines).value a i d ≡ Some (mean b c a i d))
