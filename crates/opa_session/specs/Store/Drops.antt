-- Slots of what goes.
use Rattle.std.specs.Prelude.{◌≡◌, ℕ, Bool, List, cond, ◌&&◌, ◌==◌, is_some, None}
use Rattle.std.specs.List.{list_any}
use Rattle.opa_model.specs.declared.ids.AttrId.{AttrId}
use Rattle.opa_cells.specs.Instances.{is_same}
use Rattle.opa_cells.specs.declared.instance.InstanceId.{InstanceId}
use Rattle.opa_case.specs.Live.{Population}
use Rattle.opa_case.specs.Shapes.{shape_of}
use Rattle.opa_case.specs.Turns.{Turns, is_among}
use Rattle.opa_tree.specs.declared.rulebase.Rulebase.{Rulebase}
use Rattle.opa_tree.specs.Rules.{rule_of}
use Rattle.opa_mean.specs.Places.{owner_of}
use Rattle.opa_session.specs.Store.Owners.{owned_in}
use Rattle.opa_session.specs.declared.store.owners.Owners.{Owners}
use Rattle.opa_mean.specs.Reached.Settling.{Lines, Shift, IsShift, AreCurrent, AreSettled, SameLines, laid}

-- the attribute is of the instance's entity, and has a rule
abbrev pub has_slot : Rulebase → AttrId → InstanceId → Bool
has_slot r a i = (i.entity.0 == owner_of (shape_of r.model) a) && is_some (rule_of r.rules a)

-- it is a slot of this very instance
abbrev pub slot_at : Rulebase → InstanceId → ℕ → InstanceId → Bool
slot_at r i a j = has_slot r (record { 0 = a }) j && is_same j i

-- the attribute is among those
abbrev pub is_named : List AttrId → ℕ → Bool
is_named attrs a = list_any (λ b. a == b.0) attrs

-- it is a slot of this very instance, and of its entity's attributes
abbrev pub goes_at : Rulebase → Owners → InstanceId → ℕ → InstanceId → Bool
goes_at r owners i a j = is_named (owned_in owners i.entity.0) a && slot_at r i a j

-- the lines of the slots of what goes are taken out
abbrev pub AreDropped : Rulebase → Population → Lines → Lines → Type 0
AreDropped r went old new = (a : AttrId) (i : InstanceId) → new a i ≡ cond (has_slot r a i && is_among went i) None (old a i)

-- Where one population becomes another, the dirty slots were derived, and what goes is dropped of the lines that are laid over
-- those that are kept, what is left is current for the case that comes.
abbrev pub DroppedAreCurrent : Type 0
DroppedAreCurrent = (s : Shift) → IsShift s → (went come : Population) (home : InstanceId) → Turns s.old.live s.new.live went come home
    → (kept staged mid after : Lines) → AreCurrent s.rules s.old kept → AreSettled s staged → SameLines (laid kept staged) mid → AreDropped s.rules went mid after → AreCurrent s.rules s.new after
