-- Which slots read a line or a list.
use Rattle.std.specs.Prelude.{◌≡◌, ◌⊎◌, ◌↔◌, ℕ, Bool, ◌&&◌, ◌==◌, List, Contains}
use Rattle.std.specs.BTreeSet.{BTreeSet}
use Rattle.std.specs.FinMap.{FinMap, get}
use Rattle.opa_model.specs.declared.ids.AttrId.{AttrId}
use Rattle.opa_cells.specs.Instances.{is_same}
use Rattle.opa_cells.specs.Keys.{cell_cmp}
use Rattle.opa_cells.specs.declared.instance.InstanceId.{InstanceId}
use Rattle.opa_case.specs.Cases.{CaseView}
use Rattle.opa_case.specs.declared.question.Question.{Question}
use Rattle.opa_case.specs.declared.question.Question.TheVariants as question
use Rattle.opa_mean.specs.Reached.Dirty.{slot_reads}
use Rattle.opa_mean.specs.Reached.Settling.{SamePair, Waiting}
use Rattle.opa_mean.specs.Reached.Slots.{pairs_of, slots_in}
use Rattle.opa_mean.specs.declared.reached.slot.Slot.{Slot}
use Rattle.opa_tree.specs.declared.rulebase.Rulebase.{Rulebase}
use Rattle.opa_session.specs.declared.readers.index.Index.{Index}

abbrev pub pair_of : Slot → AttrId × InstanceId
pair_of s = (s.attr, s.inst)

-- it is the slot of the attribute and the instance
abbrev pub is_slot_of : AttrId → InstanceId → Slot → Bool
is_slot_of a i s = (s.attr.0 == a.0) && is_same s.inst i

-- the sets of slots at each key
abbrev pub Table : Type 0
Table = FinMap cell_cmp (BTreeSet Slot)

abbrev pub slots_at : Table → ℕ × InstanceId → Waiting
slots_at m k = pairs_of (slots_in (get m k))

-- the slots that read a question, by an index
abbrev pub readers_in : Index → Question → Waiting
readers_in x (question.Attr a i) = slots_at x.lines (a.0, i)
readers_in x (question.Members q i) = slots_at x.lists (q.0, i)

-- two keys are one
abbrev pub SameKey : ℕ × InstanceId → ℕ × InstanceId → Type 0
SameKey x y = x ≡ y

-- a slot is among them besides
abbrev pub AddsSlot : List Slot → List Slot → AttrId × InstanceId → Type 0
AddsSlot old new s = (x : AttrId × InstanceId) → Contains (pairs_of new) x ↔ (Contains (pairs_of old) x ⊎ SamePair s x)

-- at one key, and none at another
abbrev pub AddsAt : Table → Table → ℕ × InstanceId → AttrId × InstanceId → Type 0
AddsAt old new k s = (j : ℕ × InstanceId) (x : AttrId × InstanceId) → Contains (slots_at new j) x ↔ (Contains (slots_at old j) x ⊎ (SameKey k j × SamePair s x))

-- at each of these questions, and none at another
abbrev pub AddsReads : List Question → AttrId → InstanceId → Index → Index → Type 0
AddsReads reads a i old new = (q : Question) (x : AttrId × InstanceId) → Contains (readers_in new q) x ↔ (Contains (readers_in old q) x ⊎ (SamePair (a, i) x × Contains reads q))

-- at some of these questions
abbrev pub AddsSomeReads : List Question → AttrId → InstanceId → Index → Index → Type 0
AddsSomeReads reads a i old new = (q : Question) (x : AttrId × InstanceId) → (Contains (readers_in old q) x → Contains (readers_in new q) x) × (Contains (readers_in new q) x → Contains (readers_in old q) x ⊎ (SamePair (a, i) x × Contains reads q))

-- the same slots at each key, and at each question
abbrev pub SameTable : Table → Table → Type 0
SameTable old new = (j : ℕ × InstanceId) → slots_at new j ≡ slots_at old j

abbrev pub SameIndex : Index → Index → Type 0
SameIndex old new = (q : Question) → readers_in new q ≡ readers_in old q

-- a slot is among them no more
abbrev pub TakesSlot : List Slot → List Slot → AttrId × InstanceId → Type 0
TakesSlot old new s = (x : AttrId × InstanceId) → Contains (pairs_of new) x ↔ (Contains (pairs_of old) x × (SamePair s x → ⊥))

-- at one key, and nothing is taken out at another
abbrev pub TakesAt : Table → Table → ℕ × InstanceId → AttrId × InstanceId → Type 0
TakesAt old new k s = (j : ℕ × InstanceId) (x : AttrId × InstanceId) → Contains (slots_at new j) x ↔ (Contains (slots_at old j) x × (SameKey k j × SamePair s x → ⊥))

-- at each of these questions, and nothing is taken out at another
abbrev pub TakesReads : List Question → AttrId → InstanceId → Index → Index → Type 0
TakesReads reads a i old new = (q : Question) (x : AttrId × InstanceId) → Contains (readers_in new q) x ↔ (Contains (readers_in old q) x × (SamePair (a, i) x × Contains reads q → ⊥))

-- of these slots exactly those that read a question
abbrev pub AreReadersAmong : Rulebase → CaseView → List (AttrId × InstanceId) → (Question → Waiting) → Type 0
AreReadersAmong r c slots readers = (q : Question) (x : AttrId × InstanceId) → Contains (readers q) x ↔ (Contains slots x × Contains (slot_reads r c x.0 x.1) q)
