-- Slots that are handed in, and their attributes in the order of slots.
use Rattle.std.specs.Prelude.{◌≡◌, ◌<◌, ◌⊎◌, Bool, true, is_some, List, [], ◌∷◌, map, filter, flat_map, Option, None, Some, Contains}
use Rattle.std.specs.FinMap.{FinMap, get}
use Rattle.opa_model.specs.declared.ids.AttrId.{AttrId}
use Rattle.opa_cells.specs.Keys.{cell_cmp}
use Rattle.opa_cells.specs.declared.instance.InstanceId.{InstanceId}
use Rattle.opa_case.specs.Cases.{CaseView}
use Rattle.opa_case.specs.Shapes.{Shape}
use Rattle.opa_session.specs.Telling.Telling.{changes_among}
use Rattle.opa_session.specs.Telling.Reaching.{AreSlots}
use Rattle.opa_session.specs.Telling.Walking.{with_listed}
use Rattle.opa_session.specs.declared.telling.told_attrs.ToldAttrs.{ToldAttrs}
use Rattle.opa_mean.specs.Reached.Dirty.{is_reached}
use Rattle.opa_mean.specs.declared.reached.slot.Slot.{Slot}
use Rattle.opa_mean.specs.Changes.{change_of, changes}
use Rattle.opa_mean.specs.Given.{base_of, facts_of}
use Rattle.opa_mean.specs.Mean.{Base}
use Rattle.opa_mean.specs.Rulebases.{IsOf}
use Rattle.opa_mean.specs.Slots.{is_slot}
use Rattle.opa_tree.specs.declared.rulebase.Rulebase.{Rulebase}

-- These are live slots, and each slot whose line differs is among them.
pub record HaveChanges (r : Rulebase) (c c' : CaseView) (slots : List (AttrId × InstanceId)) : Type 0 where
  pub live : (a : AttrId) (i : InstanceId) → Contains slots (a, i) → is_slot r c' a i ≡ true
  pub all : (a : AttrId) (i : InstanceId) → is_slot r c' a i ≡ true → is_some (change_of (base_of r) (facts_of c) (facts_of c') a i) ≡ true → Contains slots (a, i)

-- Live slots that have all that a change reaches among them have all changes.
abbrev pub DirtyHaveChanges : Type 0
DirtyHaveChanges = (r : Rulebase) (c c' : CaseView) → IsOf r c → IsOf r c' → (slots : List (AttrId × InstanceId)) → ((a : AttrId) (i : InstanceId) → Contains slots (a, i) → is_slot r c' a i ≡ true)
    → ((a : AttrId) (i : InstanceId) → is_slot r c' a i ≡ true → is_reached r c c' a i ≡ true → Contains slots (a, i)) → HaveChanges r c c' slots

-- by rank, and then in declared order
abbrev pub ByRank : Base → AttrId → AttrId → Type 0
ByRank b x y = (b.rank x < b.rank y) ⊎ ((b.rank x ≡ b.rank y) × (x.0 < y.0))

-- each stands before those behind it
abbrev pub InOrder : {X : Type 0} → (X → X → Type 0) → List X → Type 0
InOrder R [] = Unit {0}
InOrder R (x ∷ xs) = ((y : _) → Contains xs y → R x y) × InOrder R xs

-- behind the last one, if there is one
abbrev pub Behind : Base → Option AttrId → AttrId → Type 0
Behind b None a = Unit {0}
Behind b (Some last) a = ByRank b last a

-- The attributes of slots, each once, by rank and then in declared order; whether each slot has an attribute of its own.
pub record AreTold (b : Base) (slots : List Slot) (told : ToldAttrs) : Type 0 where
  pub ordered : InOrder (ByRank b) told.attrs
  pub each : (s : Slot) → Contains slots s → Contains told.attrs s.attr
  pub only : (a : AttrId) → Contains told.attrs a → (s : Slot) × (Contains slots s × (s.attr ≡ a))
  pub here : (a : AttrId) → told.last ≡ Some a → Contains told.attrs a
  pub top : (z : AttrId) → Behind b told.last z → (x : AttrId) → Contains told.attrs x → ByRank b x z
  pub own : told.single ≡ true → told.attrs ≡ map (λ (s : Slot). s.attr) slots

-- marks of slots
abbrev pub Marks : Type 0
Marks = FinMap cell_cmp Bool

abbrev pub is_marked : Marks → AttrId × InstanceId → Bool
is_marked m s = is_some (get m (s.0.0, s.1))

abbrev pub AreMarked : List Slot → Marks → Type 0
AreMarked slots m = (s : Slot) → Contains slots s → is_marked m (s.attr, s.inst) ≡ true

-- of the slots of attributes those that are marked
abbrev pub marked_among : Shape → List (List InstanceId) → Marks → List AttrId → List (AttrId × InstanceId)
marked_among s live m attrs = flat_map (λ a. filter (is_marked m) (with_listed s live a)) attrs

-- slots whose changes are all changes, in their order
pub record AreChosen (r : Rulebase) (c c' : CaseView) (slots : List (AttrId × InstanceId)) : Type 0 where
  pub live : AreSlots r c' slots
  pub same : changes_among (base_of r) (facts_of c) (facts_of c') slots ≡ changes (base_of r) (facts_of c) (facts_of c')
