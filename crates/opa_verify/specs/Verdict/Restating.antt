-- What is printed of a report, as texts.
use Rattle.std.specs.Prelude.{◌≡◌, ℕ, List, [], map, Option, None, Some, slice_index_or, if◌then◌else◌}
use Rattle.opa_value.specs.declared.value.Value.{Value}
use Rattle.opa_value.specs.Truth.{is_unknown}
use Rattle.opa_words.specs.Names.{printed_name}
use Rattle.opa_case.specs.Shapes.{attribute_or, relation_or}
use Rattle.opa_cells.specs.Instances.{is_same, global}
use Rattle.opa_cells.specs.declared.instance.InstanceId.{InstanceId}
use Rattle.opa_tree.specs.declared.rulebase.Rulebase.{Rulebase}
use Rattle.opa_tree.specs.declared.rules.Rule.{Rule}
use Rattle.opa_tree.specs.Rules.{rule_of}
use Rattle.opa_report.specs.declared.lines.Report.{Report}
use Rattle.opa_report.specs.declared.lines.ReportLine.{ReportLine}
use Rattle.opa_report.specs.declared.lines.ReportLine.TheVariants as line
use Rattle.opa_verify.specs.Spelling.Spelling.{IsSpelled}
use Rattle.opa_verify.specs.declared.spelling.printed.Origin.{Origin}
use Rattle.opa_verify.specs.declared.spelling.printed.Origin.TheVariants as origin
use Rattle.opa_verify.specs.declared.spelling.printed.Printed.{Printed}
use Rattle.opa_verify.specs.declared.spelling.printed.Printed.TheVariants as printed
use Rattle.opa_verify.specs.declared.spelling.printed.Spelled.{Spelled}
use Rattle.opa_verify.specs.declared.spelling.printed.Spot.{Spot}
use Rattle.opa_verify.specs.Verdict.Naming.{asked_point, AreNamed}

-- the name with which an instance is printed
abbrev pub name_of : InstanceId → Option (List ℕ)
name_of i = if is_same i global then None else Some i.name

abbrev pub spot_of : List ℕ → InstanceId → Spot
spot_of phrase i = record { phrase = phrase; name = name_of i }

abbrev pub origin_by : List (List ℕ) → Option Rule → Value → Origin
origin_by files None v = if is_unknown v then origin.Unanswered else origin.Answer
origin_by files (Some rule) v = origin.Rule (printed_name (slice_index_or files rule.file [])) rule.line

abbrev pub spelled_line : Rulebase → ReportLine → Printed
spelled_line r (line.Point a i s t v) = printed.Point (spot_of (attribute_or r.model a).phrase i) s t (attribute_or r.model a).kind v (origin_by r.files (rule_of r.rules a) v)
spelled_line r (line.Members q i names) = printed.Members (spot_of (relation_or r.model q).phrase i) names
spelled_line r (line.Member q k i) = printed.Member (spot_of (relation_or r.model q).phrase k) i.name

abbrev pub spelled_of : Rulebase → Report → Spelled
spelled_of r x = record { asked = spot_of (attribute_or r.model x.attr).phrase x.inst; day = x.day; printed = map (spelled_line r) x.lines }

-- All of it can be printed, and what is printed names it again.
pub record IsRestated (r : Rulebase) (x : Report) : Type 0 where
  pub spelled : IsSpelled (spelled_of r x)
  pub asked : asked_point r (spelled_of r x).asked ≡ Some (x.attr, x.inst)
  pub lines : AreNamed r (spelled_of r x).printed x.lines
