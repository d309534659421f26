-- Slots that are added to what waits.
use Rattle.std.specs.Prelude.{◌≡◌, ◌⊎◌, ◌↔◌, true, List, Contains}
use Rattle.opa_model.specs.declared.ids.AttrId.{AttrId}
use Rattle.opa_cells.specs.Instances.{is_same}
use Rattle.opa_cells.specs.declared.instance.InstanceId.{InstanceId}
use Rattle.opa_case.specs.Cases.{CaseView, IsLive}
use Rattle.opa_case.specs.Live.{Population}
use Rattle.opa_case.specs.Turns.{is_among}
use Rattle.opa_case.specs.declared.question.Question.{Question}
use Rattle.opa_tree.specs.declared.rulebase.Rulebase.{Rulebase}
use Rattle.opa_mean.specs.Reached.ByLists.{ReadsTold}
use Rattle.opa_mean.specs.Reached.Settling.{Waiting}
use Rattle.opa_session.specs.Settlement.Tasks.{AreRanked, slots_of}
use Rattle.opa_session.specs.declared.settlement.task.Task.{Task}
use Rattle.opa_session.specs.Store.Drops.{has_slot}

-- Those slots wait besides.
pub record WaitsBesides (r : Rulebase) (those : AttrId → InstanceId → Type 0) (old new : List Task) : Type 0 where
  pub ranked : AreRanked r old → AreRanked r new
  pub waits : (a : AttrId) (i : InstanceId) → Contains (slots_of new) (a, i) ↔ (Contains (slots_of old) (a, i) ⊎ those a i)

-- a slot of this instance
abbrev pub IsOwnSlot : Rulebase → InstanceId → AttrId → InstanceId → Type 0
IsOwnSlot r j a i = (is_same i j ≡ true) × (has_slot r a i ≡ true)

-- a slot of this instance, of one of these attributes
abbrev pub IsOwnSlotAmong : Rulebase → InstanceId → List AttrId → AttrId → InstanceId → Type 0
IsOwnSlotAmong r j attrs a i = Contains attrs a × IsOwnSlot r j a i

-- this very slot
abbrev pub IsThisSlot : Rulebase → AttrId → InstanceId → AttrId → InstanceId → Type 0
IsThisSlot r b j a i = (b ≡ a) × IsOwnSlot r j a i

-- a slot of one of these
abbrev pub IsSlotOfOne : Rulebase → Population → AttrId → InstanceId → Type 0
IsSlotOfOne r some a i = (is_among some i ≡ true) × (has_slot r a i ≡ true)

-- what is live and reads one of these questions
abbrev pub IsLiveReader : CaseView → (Question → Waiting) → List Question → AttrId → InstanceId → Type 0
IsLiveReader c readers told a i = IsLive c i × ReadsTold readers told a i
