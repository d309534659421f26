-- The line of a report that a printed line is over a rulebase. There is none exactly where it has a fault of names: its
-- phrase is none of the right sort, it has a name where the entity is the global one or none where it isn't, or its value or
-- its origin isn't printed so for the attribute.
use Rattle.std.specs.Prelude.{◌≡◌, ℕ, zero, suc, Bool, ◌&&◌, List, [], ◌∷◌, Option, None, Some, if◌then◌else◌}
use Rattle.std.specs.Option.{option_map, option_and_then}
use Rattle.std.specs.Str.{bytes_eq}
use Rattle.opa_value.specs.declared.value.Value.{Value}
use Rattle.opa_model.specs.declared.ids.AttrId.{AttrId}
use Rattle.opa_model.specs.declared.ids.RelId.{RelId}
use Rattle.opa_model.specs.declared.lists.Lists.{Lists}
use Rattle.opa_model.specs.declared.things.Kind.{Kind}
use Rattle.opa_model.specs.Lookups.{attribute_named, relation_named}
use Rattle.opa_case.specs.Shapes.{attribute_or, relation_or}
use Rattle.opa_case.specs.Steps.{has_kind}
use Rattle.opa_cells.specs.declared.instance.InstanceId.{InstanceId}
use Rattle.opa_cells.specs.Instances.{global, named}
use Rattle.opa_tree.specs.declared.rulebase.Rulebase.{Rulebase}
use Rattle.opa_tree.specs.Rules.{rule_of}
use Rattle.opa_text.specs.Texts.{value_text}
use Rattle.opa_report.specs.declared.lines.ReportLine.{ReportLine}
use Rattle.opa_report.specs.declared.lines.ReportLine.TheVariants as line
use Rattle.opa_report.specs.Text.Texts as told
use Rattle.opa_verify.specs.declared.spelling.printed.Spot.{Spot}
use Rattle.opa_verify.specs.declared.spelling.printed.Origin.{Origin}
use Rattle.opa_verify.specs.declared.spelling.printed.Printed.{Printed}
use Rattle.opa_verify.specs.declared.spelling.printed.Printed.TheVariants as printed
use Rattle.opa_verify.specs.Spelling.Printed.{origin_text}

-- the instance of an entity with a name, which the global one lacks
abbrev pub instance_for : ℕ → Option (List ℕ) → Option InstanceId
instance_for zero None = Some global
instance_for zero (Some n) = None
instance_for (suc e) None = None
instance_for (suc e) (Some n) = Some (named (suc e) n)

-- the value is of the attribute's kind and printed so, and the origin is the attribute's
abbrev pub is_printed_so : Rulebase → AttrId → Kind → Value → Origin → Bool
is_printed_so b a k v o =
    has_kind (attribute_or b.model a).kind v && bytes_eq (value_text (attribute_or b.model a).kind v) (value_text k v) && bytes_eq (told.origin_text b.files (rule_of b.rules a) v) (origin_text o)

abbrev pub point_line : Rulebase → AttrId → InstanceId → ℕ → ℕ → Kind → Value → Origin → Option ReportLine
point_line b a i s t k v o = if is_printed_so b a k v o then Some (line.Point a i s t v) else None

abbrev pub point_at : Lists → AttrId → Spot → Option InstanceId
point_at m a p = instance_for (attribute_or m a).entity.0 p.name

abbrev pub list_at : Lists → RelId → Spot → Option InstanceId
list_at m r p = instance_for (relation_or m r).source.0 p.name

-- a member's line, of a relation that contains
abbrev pub member_line : Lists → RelId → Spot → List ℕ → Option ReportLine
member_line m r p n = if (relation_or m r).contains then option_map (λ k. line.Member r k (named (relation_or m r).target.0 n)) (list_at m r p) else None

-- the point that is asked of
abbrev pub asked_point : Rulebase → Spot → Option (AttrId × InstanceId)
asked_point b p = option_and_then (λ a. option_map (λ i. (a, i)) (point_at b.model a p)) (attribute_named b.model p.phrase)

abbrev pub named_point : Rulebase → Spot → ℕ → ℕ → Kind → Value → Origin → Option ReportLine
named_point b p s t k v o = option_and_then (λ x. point_line b x.0 x.1 s t k v o) (asked_point b p)

abbrev pub named_members : Lists → Spot → Option (List (List ℕ)) → Option ReportLine
named_members m p names = option_and_then (λ r. option_map (λ i. line.Members r i names) (list_at m r p)) (relation_named m p.phrase)

abbrev pub named_member : Lists → Spot → List ℕ → Option ReportLine
named_member m p n = option_and_then (λ r. member_line m r p n) (relation_named m p.phrase)

abbrev pub named_line : Rulebase → Printed → Option ReportLine
named_line b (printed.Point p s t k v o) = named_point b p s t k v o
named_line b (printed.Members p names) = named_members b.model p names
named_line b (printed.Member p n) = named_member b.model p n

-- each printed line is one of a report
abbrev pub AreNamed : Rulebase → List Printed → List ReportLine → Type 0
AreNamed b [] [] = Unit {0}
AreNamed b [] (l ∷ ls) = ⊥
AreNamed b (x ∷ xs) [] = ⊥
AreNamed b (x ∷ xs) (l ∷ ls) = (named_line b x ≡ Some l) × AreNamed b xs ls
