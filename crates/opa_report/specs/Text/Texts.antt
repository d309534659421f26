-- The text of a report.
use Rattle.std.specs.Prelude.{ℕ, ◌+◌, ◌<◌, List, [], ◌∷◌, ◌++◌, Option, None, Some, codes, slice_index_or, if◌then◌else◌}
use Rattle.std.specs.Fmt.{decimal}
use Rattle.std.specs.List.{AllByRecursion}
use Rattle.opa_date.specs.declared.TheConstants.{DAYS}
use Rattle.opa_date.specs.Texts.{day_text}
use Rattle.opa_value.specs.declared.value.Value.{Value}
use Rattle.opa_value.specs.Truth.{is_unknown}
use Rattle.opa_words.specs.Kinds.{quoted}
use Rattle.opa_words.specs.Names.{printed_name}
use Rattle.opa_model.specs.declared.ids.AttrId.{AttrId}
use Rattle.opa_model.specs.declared.things.Kind.{Kind}
use Rattle.opa_model.specs.declared.lists.Lists.{Lists}
use Rattle.opa_model.specs.Models.{HasAttribute, HasRelation}
use Rattle.opa_case.specs.Shapes.{attribute_or, relation_or}
use Rattle.opa_cells.specs.declared.instance.InstanceId.{InstanceId}
use Rattle.opa_tree.specs.declared.rulebase.Rulebase.{Rulebase}
use Rattle.opa_tree.specs.declared.rules.Rule.{Rule}
use Rattle.opa_tree.specs.Rules.{rule_of}
use Rattle.opa_text.specs.Points.{point_text, names_text}
use Rattle.opa_text.specs.Texts.{IsOfCalendar, value_text}
use Rattle.opa_report.specs.declared.lines.Report.{Report}
use Rattle.opa_report.specs.declared.lines.ReportLine.{ReportLine}
use Rattle.opa_report.specs.declared.lines.ReportLine.TheVariants as line

-- `rule FILE:LINE`
abbrev pub place_text : List ℕ → ℕ → List ℕ
place_text file line = codes "rule " ++ (file ++ (codes ":" ++ decimal line))

-- where a value comes from: the place of the rule, or an answer, or nobody's answer
abbrev pub origin_text : List (List ℕ) → Option Rule → Value → List ℕ
origin_text files None v = if is_unknown v then codes "unanswered" else codes "answer"
origin_text files (Some rule) v = place_text (printed_name (slice_index_or files rule.file [])) rule.line

-- `DATE to DATE`
abbrev pub span_text : ℕ → ℕ → List ℕ
span_text first last = day_text first ++ (codes " to " ++ day_text last)

-- `VALUE, ORIGIN`
abbrev pub told_text : Kind → Value → List ℕ → List ℕ
told_text kind v origin = value_text kind v ++ (codes ", " ++ origin)

-- `POINT, DATE to DATE: VALUE, ORIGIN`
abbrev pub placed_text : List ℕ → List ℕ → List ℕ → List ℕ
placed_text point span told = point ++ (codes ", " ++ (span ++ (codes ": " ++ told)))

abbrev pub with_number : ℕ → List ℕ → List ℕ
with_number n told = decimal n ++ (codes " " ++ (told ++ 10 ∷ []))

-- `N POINT, DATE to DATE: VALUE, ORIGIN`
abbrev pub point_line : ℕ → List ℕ → Kind → InstanceId → ℕ → ℕ → Value → List ℕ → List ℕ
point_line n phrase kind i first last v origin = with_number n (placed_text (point_text phrase i) (span_text first last) (told_text kind v origin))

-- `N list POINT: NAMES`
abbrev pub members_line : ℕ → List ℕ → InstanceId → Option (List (List ℕ)) → List ℕ
members_line n phrase i names = decimal n ++ (codes " list " ++ (point_text phrase i ++ (codes ": " ++ (names_text names ++ 10 ∷ []))))

-- `N member POINT: "NAME"`
abbrev pub member_line : ℕ → List ℕ → InstanceId → InstanceId → List ℕ
member_line n phrase container i = decimal n ++ (codes " member " ++ (point_text phrase container ++ (codes ": " ++ (quoted i.name ++ 10 ∷ []))))

-- `report POINT at DATE`
abbrev pub heading : List ℕ → List ℕ → List ℕ
heading point date = codes "report " ++ (point ++ (codes " at " ++ (date ++ 10 ∷ [])))

abbrev pub first_line : List ℕ → InstanceId → ℕ → List ℕ
first_line phrase i d = heading (point_text phrase i) (day_text d)

-- what a line says is declared, and its days are of the calendar
abbrev pub IsPrintable : Lists → ReportLine → Type 0
IsPrintable m (line.Point a i first last v) = HasAttribute m a × ((first < DAYS) × ((last < DAYS) × IsOfCalendar v))
IsPrintable m (line.Members r i names) = HasRelation m r
IsPrintable m (line.Member r container i) = HasRelation m r

-- the text of a numbered line
abbrev pub line_text : Rulebase → ℕ → ReportLine → List ℕ
line_text b n (line.Point a i first last v) = point_line n (attribute_or b.model a).phrase (attribute_or b.model a).kind i first last v (origin_text b.files (rule_of b.rules a) v)
line_text b n (line.Members r i names) = members_line n (relation_or b.model r).phrase i names
line_text b n (line.Member r container i) = member_line n (relation_or b.model r).phrase container i

-- lines numbered from n on, and the end
abbrev pub numbered : Rulebase → ℕ → List ReportLine → List ℕ
numbered b n [] = codes "end" ++ 10 ∷ []
numbered b n (x ∷ xs) = line_text b n x ++ numbered b (n + 1) xs

-- its attribute is declared, its day is of the calendar, and so are its lines
pub record ArePrintable (m : Lists) (x : Report) : Type 0 where
  pub attr : HasAttribute m x.attr
  pub day : x.day < DAYS
  pub lines : AllByRecursion (IsPrintable m) x.lines

-- the text of a report
abbrev pub report_text : Rulebase → Report → List ℕ
report_text b x = first_line (attribute_or b.model x.attr).phrase x.inst x.day ++ numbered b 1 x.lines
