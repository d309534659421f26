-- What is found is so, whatever case fits the rulebase.
use Rattle.std.specs.Prelude.{ℕ, ◌≡◌, ◌≢◌, ◌↔◌, ◌+◌, ◌<◌, true, false, IsTrue, List, ◌∷◌, ◌++◌, length, slice_get, Option, None, Some, Contains, if◌then◌else◌}
use Rattle.opa_model.specs.declared.ids.AttrId.{AttrId}
use Rattle.opa_model.specs.Models.{HasAttribute}
use Rattle.opa_cells.specs.declared.instance.InstanceId.{InstanceId}
use Rattle.opa_case.specs.Shapes.{Shape}
use Rattle.opa_tree.specs.declared.expr.Expr.{Expr}
use Rattle.opa_tree.specs.declared.expr.Row.{Row}
use Rattle.opa_tree.specs.declared.expr.Expr.TheVariants as V
use Rattle.opa_tree.specs.declared.rulebase.Rulebase.{Rulebase}
use Rattle.opa_tree.specs.declared.rules.Rule.{Rule}
use Rattle.opa_tree.specs.Rules.{rule_of}
use Rattle.opa_mean.specs.Given.{base_of}
use Rattle.opa_mean.specs.Looks.{Look}
use Rattle.opa_mean.specs.Mean.{Facts, mean}
use Rattle.opa_mean.specs.Meaning.{value}
use Rattle.opa_rules.specs.declared.reviewing.finding.Finding.{Finding}
use Rattle.opa_rules.specs.declared.reviewing.finding.Finding.TheVariants as finding
use Rattle.opa_rules.specs.declared.reviewing.finding.RoundedCurrency.{RoundedCurrency}
use Rattle.opa_rules.specs.declared.reviewing.finding.UncertainEnding.{UncertainEnding}
use Rattle.opa_rules.specs.declared.reviewing.finding.UnreachedRow.{UnreachedRow}
use Rattle.opa_rules.specs.Reviewing.Alike.{are_close}
use Rattle.opa_rules.specs.Reviewing.Endings.{ends_uncertain}
use Rattle.opa_rules.specs.Reviewing.Findings.{findings}
use Rattle.opa_rules.specs.Reviewing.Phrases.{phrase_of, list_phrase_of}
use Rattle.opa_rules.specs.Reviewing.Roundings.{used, is_rounded}
use Rattle.opa_rules.specs.declared.reviewing.finding.SettledGoal.{SettledGoal}
use Rattle.opa_rules.specs.declared.reviewing.finding.UnusedAttribute.{UnusedAttribute}
use Rattle.opa_rules.specs.Reviewing.Looking.{IsLookedAt, IsSettled, unused_by}
use Rattle.opa_rules.specs.Reviewing.NoCase.{IsCompared}
use Rattle.opa_rules.specs.Reviewing.Rows.{always}

-- over whatever is looked at, two trees have one value
abbrev pub AlwaysAlike : Expr → Expr → Type 0
AlwaysAlike e e' = (s : Shape) (l : Look) (enclosing : List InstanceId) (d : ℕ) → value s l e enclosing d ≡ value s l e' enclosing d

-- A rule of the rulebase is a table with this row and the earlier one. Without the row the table has the same value.
pub record IsUnreached (base : Rulebase) (f : UnreachedRow) : Type 0 where
  pub rule : Rule
  pub of_base : Contains base.rules rule
  pub concludes : rule.attr ≡ f.attr
  pub before : List Row
  pub row : Row
  pub behind : List Row
  pub last : Expr
  pub is_table : rule.expr ≡ V.Table (before ++ row ∷ behind) last
  pub place : length before + 1 ≡ f.row
  pub earlier : Row
  pub earlier_place : ℕ
  pub stands : slice_get before earlier_place ≡ Some earlier
  pub counted : earlier_place + 1 ≡ f.earlier
  pub because : earlier.cond ≡ (if f.always then always else row.cond)
  -- with the same condition, it says exactly whether the values differ
  pub another_value : IsTrue f.differs ↔ ((f.always ≡ false) × (earlier.value ≢ row.value))
  pub without_it : AlwaysAlike rule.expr (V.Table (before ++ behind) last)

-- by the facts of two cases an attribute has one value, at each instance and each day
abbrev pub SameValue : Rulebase → Facts → Facts → AttrId → Type 0
SameValue base c c' a = (i : InstanceId) (d : ℕ) → mean (base_of base) c a i d ≡ mean (base_of base) c' a i d

-- two cases that have the same lists and containers, and the same answers but for those of one attribute
pub record DifferAt (a : AttrId) (c c' : Facts) : Type 0 where
  pub members : c.members ≡ c'.members
  pub container : c.container ≡ c'.container
  pub answers : (b : AttrId) → b ≢ a → (i : InstanceId) (d : ℕ) → c.answer b i d ≡ c'.answer b i d

-- it stands where its rule does; one without a rule has line 0 of the main file
abbrev pub StandsAt : Option Rule → ℕ → ℕ → Type 0
StandsAt None file line = (file ≡ 0) × (line ≡ 0)
StandsAt (Some rule) file line = (file ≡ rule.file) × (line ≡ rule.line)

-- No goal looks at the attribute: whatever is answered of it, each goal keeps its value.
pub record IsUnused (base : Rulebase) (f : UnusedAttribute) : Type 0 where
  pub declared : HasAttribute base.model f.attr
  pub stands : StandsAt (rule_of base.rules f.attr) f.file f.line
  pub not_looked_at : IsLookedAt base f.attr → ⊥
  pub changes_nothing : (c c' : Facts) → DifferAt f.attr c c' → (g : AttrId) → Contains base.model.goals g → SameValue base c c' g

-- No answer and no list changes the goal: it has one value, whatever else is known of the same instances.
pub record IsSettledGoal (base : Rulebase) (f : SettledGoal) : Type 0 where
  pub of_goals : Contains base.model.goals f.attr
  pub rule : Rule
  pub by_rule : rule_of base.rules f.attr ≡ Some rule
  pub stands : StandsAt (Some rule) f.file f.line
  pub settled : IsSettled base f.attr
  pub unchanged : (c c' : Facts) → c.container ≡ c'.container → SameValue base c c' f.attr

-- Of a note nothing follows for cases. It says what the rulebase has: two phrases that differ by one letter or only in case, the rule of
-- a currency that is rounded (IsRounding), or a rule that ends so (IsEnding).
pub record IsRounding (base : Rulebase) (f : RoundedCurrency) : Type 0 where
  pub rule : Rule
  pub of_base : Contains base.rules rule
  pub concludes : rule.attr ≡ f.attr
  pub rounded : is_rounded base.model (used base) rule ≡ true

pub record IsEnding (base : Rulebase) (f : UncertainEnding) : Type 0 where
  pub rule : Rule
  pub of_base : Contains base.rules rule
  pub concludes : rule.attr ≡ f.attr
  pub ends : ends_uncertain rule.expr ≡ true

abbrev pub IsSo : Rulebase → Finding → Type 0
IsSo base (finding.Row f) = IsUnreached base f
IsSo base (finding.Compared f) = IsCompared base f
IsSo base (finding.Unused f) = IsUnused base f
IsSo base (finding.Settled f) = IsSettledGoal base f
IsSo base (finding.Attributes f) = are_close (phrase_of base.model f.first) (phrase_of base.model f.second) ≡ true
IsSo base (finding.Lists f) = are_close (list_phrase_of base.model f.first) (list_phrase_of base.model f.second) ≡ true
IsSo base (finding.Rounding f) = IsRounding base f
IsSo base (finding.Ending f) = IsEnding base f

abbrev pub FindingsAreSo : Type 0
FindingsAreSo = (base : Rulebase) (f : Finding) → Contains (findings base) f → IsSo base f

-- where there is a goal, each declared attribute that no goal looks at is found
abbrev pub UnusedAreFound : Type 0
UnusedAreFound = (base : Rulebase) (a : AttrId) → 0 < length base.model.goals → HasAttribute base.model a → (IsLookedAt base a → ⊥) → Contains (findings base) (finding.Unused (unused_by a (rule_of base.rules a)))

-- each settled goal is found
abbrev pub SettledAreFound : Type 0
SettledAreFound = (base : Rulebase) (g : AttrId) (rule : Rule) → Contains base.model.goals g → IsSettled base g → rule_of base.rules g ≡ Some rule
    → Contains (findings base) (finding.Settled (record { attr = g; file = rule.file; line = rule.line }))
