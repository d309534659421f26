-- Laws that tell what slots, lines, changes and the tests of sameness are.
use Rattle.std.specs.Prelude.{◌≡◌, ◌≢◌, ◌<◌, ◌⊎◌, ◌↔◌, ℕ, true, List, [], filter, length, slice_index_or, Option, Contains, AllPairs}
use Rattle.std.specs.List.{AllByRecursion}
use Rattle.opa_date.specs.declared.TheConstants.{DAYS}
use Rattle.opa_value.specs.declared.value.Value.{Value}
use Rattle.opa_line.specs.Lines.{IsLine, StandsFor}
use Rattle.opa_model.specs.declared.ids.AttrId.{AttrId}
use Rattle.opa_cells.specs.declared.instance.InstanceId.{InstanceId}
use Rattle.opa_case.specs.Cases.{CaseView, IsLive}
use Rattle.opa_case.specs.declared.question.Question.{Question}
use Rattle.opa_tree.specs.declared.expr.Expr.{Expr}
use Rattle.opa_tree.specs.declared.rulebase.Rulebase.{Rulebase}
use Rattle.opa_case.specs.Live.{members}
use Rattle.opa_case.specs.Shapes.{shape_of}
use Rattle.opa_case.specs.Steps as step
use Rattle.opa_mean.specs.Changes.{Changed, line, slots, dirty, changes, value_before}
use Rattle.opa_mean.specs.Given.{base_of, facts_of}
use Rattle.opa_mean.specs.Holding.{held_look}
use Rattle.opa_mean.specs.Mean.{Base, Facts, look_of, mean}
use Rattle.opa_mean.specs.Meaning.{value}
use Rattle.opa_mean.specs.Places.{is_of}
use Rattle.opa_mean.specs.Rulebases.{IsOf, value_at}
use Rattle.opa_mean.specs.Sameness.{same_value, same_question, same_names}
use Rattle.opa_mean.specs.Slots.{is_slot}

-- The slots of the definition are the live slots.
abbrev pub SlotsAreLive : Type 0
SlotsAreLive = (r : Rulebase) (c : CaseView) → IsOf r c → (a : AttrId) (i : InstanceId) → Contains (slots (base_of r) (facts_of c)) (a, i) ↔ (is_slot r c a i ≡ true)

-- x stands before y in a list
abbrev pub Precedes : {X : Type 0} → List X → X → X → Type 0
Precedes xs x y = (i : ℕ) × ((j : ℕ) × ((i < j) × ((j < length xs) × ((slice_index_or xs i x ≡ x) × (slice_index_or xs j x ≡ y)))))

-- a slot comes before another: by rank, then in declared order, then in instance order
abbrev pub ComesBefore : Base → Facts → AttrId × InstanceId → AttrId × InstanceId → Type 0
ComesBefore b c x y = (b.rank x.0 < b.rank y.0) ⊎ ((b.rank x.0 ≡ b.rank y.0) × ((x.0.0 < y.0.0) ⊎ ((x.0 ≡ y.0) × Precedes c.instances x.1 y.1)))

-- They are in order.
abbrev pub SlotsInOrder : Type 0
SlotsInOrder = (r : Rulebase) (c : CaseView) → AllPairs (ComesBefore (base_of r) (facts_of c)) (slots (base_of r) (facts_of c))

-- No live instance stands twice in instance order, and so no slot stands twice.
abbrev pub InstancesOnce : Type 0
InstancesOnce = (r : Rulebase) (c : CaseView) → IsOf r c → AllPairs (λ i j. i ≢ j) (facts_of c).instances

abbrev pub SlotsOnce : Type 0
SlotsOnce = (r : Rulebase) (c : CaseView) → IsOf r c → AllPairs (λ x y. x ≢ y) (slots (base_of r) (facts_of c))

-- A line that stands for the values of an attribute is the line of the definition, and that one stands for them.
abbrev pub LineIsOne : Type 0
LineIsOne = (r : Rulebase) (c : CaseView) (a : AttrId) (i : InstanceId) (l : List (ℕ × Value)) → IsLine DAYS l → StandsFor DAYS (value_at r c a i) l ↔ (l ≡ line (base_of r) (facts_of c) a i)

-- From a case to itself nothing is dirty, and nothing changes.
abbrev pub NothingIsDirty : Type 0
NothingIsDirty = (r : Rulebase) (c : CaseView) → IsOf r c → dirty (base_of r) (facts_of c) (facts_of c) ≡ 0

abbrev pub NothingChanges : Type 0
NothingChanges = (r : Rulebase) (c : CaseView) → IsOf r c → changes (base_of r) (facts_of c) (facts_of c) ≡ []

-- A change is of a live slot: its values are those before and afterwards at its day, they differ, and on no earlier day they do.
pub record IsChange (r : Rulebase) (c c' : CaseView) (x : Changed) : Type 0 where
  pub slot : is_slot r c' x.attr x.inst ≡ true
  pub within : x.day < DAYS
  pub old : x.old ≡ value_before (base_of r) (facts_of c) x.attr x.inst x.day
  pub new : x.new ≡ value_at r c' x.attr x.inst x.day
  pub differ : x.old ≢ x.new
  pub first : (d : ℕ) → d < x.day → value_before (base_of r) (facts_of c) x.attr x.inst d ≡ value_at r c' x.attr x.inst d

-- Exactly these are the changes.
abbrev pub ChangesAre : Type 0
ChangesAre = (r : Rulebase) (c c' : CaseView) → IsOf r c' → (x : Changed) → Contains (changes (base_of r) (facts_of c) (facts_of c')) x ↔ IsChange r c c' x

-- The tests of sameness hold exactly of what is one.
pub record SamenessIsExact : Type 0 where
  pub values : (v w : Value) → (same_value v w ≡ true) ↔ (v ≡ w)
  pub questions : (p q : Question) → (same_question p q ≡ true) ↔ (p ≡ q)
  pub names : (x y : Option (List (List ℕ))) → (same_names x y ≡ true) ↔ (x ≡ y)

-- Over the lines that are held a tree has its value over the determination.
abbrev pub HeldIsFresh : Type 0
HeldIsFresh = (r : Rulebase) (c : CaseView) → IsOf r c → (e : Expr) (enclosing : List InstanceId) → AllByRecursion (IsLive c) enclosing → (d : ℕ) → d < DAYS
    → value (shape_of r.model) (held_look r c) e enclosing d ≡ value (shape_of r.model) (look_of (facts_of c) (mean (base_of r) (facts_of c))) e enclosing d

-- The live instances of an entity are those that a case tells of it, in its order.
abbrev pub OwnedAreMembers : Type 0
OwnedAreMembers = (r : Rulebase) (c : CaseView) → IsOf r c → (e : ℕ) → filter (is_of e) (facts_of c).instances ≡ members e c.live

-- There are as many slots as the case counts against its limit.
abbrev pub SlotsCounted : Type 0
SlotsCounted = (r : Rulebase) (c : CaseView) → IsOf r c → length (slots (base_of r) (facts_of c)) ≡ step.slots (shape_of r.model) r.ruled c.live
