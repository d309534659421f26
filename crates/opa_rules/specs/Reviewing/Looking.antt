-- What goals look at, and goals that rest on no answer.
use Rattle.std.specs.Prelude.{◌≡◌, ◌==◌, Bool, false, List, [], ◌∷◌, length, flat_map, Option, None, Some, Contains, if◌then◌else◌}
use Rattle.std.specs.List.{list_all, list_any}
use Rattle.opa_model.specs.declared.ids.AttrId.{AttrId}
use Rattle.opa_tree.specs.declared.rulebase.Rulebase.{Rulebase}
use Rattle.opa_tree.specs.declared.rules.Rule.{Rule}
use Rattle.opa_tree.specs.Levels.{attributes}
use Rattle.opa_tree.specs.Mentions.{is_attr}
use Rattle.opa_tree.specs.Ranks.{rank_at, Reaches, reach}
use Rattle.opa_tree.specs.Rules.{rule_of}
use Rattle.opa_rules.specs.declared.reviewing.finding.Finding.{Finding}
use Rattle.opa_rules.specs.declared.reviewing.finding.Finding.TheVariants as finding
use Rattle.opa_rules.specs.declared.reviewing.finding.UnusedAttribute.{UnusedAttribute}
use Rattle.opa_rules.specs.Describing.Ranges.{ranged, ranges}

-- a goal looks at itself, and at all that the rules of what it looks at mention
abbrev pub IsLookedAt : Rulebase → AttrId → Type 0
IsLookedAt base a = (g : AttrId) × (Contains base.model.goals g × Reaches base.rules g a)

-- all that an attribute looks at has a rule, and no rule of it goes over a list
abbrev pub IsSettled : Rulebase → AttrId → Type 0
IsSettled base a = (m : AttrId) → Reaches base.rules a m → (rule : Rule) × ((rule_of base.rules m ≡ Some rule) × (ranged rule.expr ≡ []))

-- what an attribute looks at, found by as many mentions, one after another, as its rank says
abbrev pub looked_at_by : Rulebase → AttrId → List AttrId
looked_at_by base a = reach base.rules (rank_at base.ranks a) a

abbrev pub is_looked_at : Rulebase → AttrId → Bool
is_looked_at base a = list_any (λ g. list_any (is_attr a) (looked_at_by base g)) base.model.goals

-- there is a rule, and it goes over no list
abbrev pub goes_over_none : Option Rule → Bool
goes_over_none None = false
goes_over_none (Some rule) = length (ranges rule.expr) == 0

abbrev pub is_settled : Rulebase → AttrId → Bool
is_settled base a = list_all (λ m. goes_over_none (rule_of base.rules m)) (looked_at_by base a)

-- it stands at its rule; without one it is told of at the head of the main file
abbrev pub unused_by : AttrId → Option Rule → UnusedAttribute
unused_by a None = record { attr = a; file = 0; line = 0 }
unused_by a (Some rule) = record { attr = a; file = rule.file; line = rule.line }

abbrev pub unused_at : Rulebase → AttrId → List Finding
unused_at base a = if is_looked_at base a then [] else finding.Unused (unused_by a (rule_of base.rules a)) ∷ []

-- The attributes that no goal looks at, in declared order. Where there is no goal, nothing is said of this.
abbrev pub unused : Rulebase → List Finding
unused base = if length base.model.goals == 0 then [] else flat_map (unused_at base) (attributes (length base.model.attributes))

abbrev pub settled_by : AttrId → Option Rule → List Finding
settled_by a None = []
settled_by a (Some rule) = finding.Settled (record { attr = a; file = rule.file; line = rule.line }) ∷ []

abbrev pub settled_at : Rulebase → AttrId → List Finding
settled_at base a = if is_settled base a then settled_by a (rule_of base.rules a) else []

-- the goals that are settled, in their order
abbrev pub settled : Rulebase → List Finding
settled base = flat_map (settled_at base) base.model.goals
