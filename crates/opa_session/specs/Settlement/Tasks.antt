-- Slots that wait, in the order of ranks, and the order in which slots are derived.
use Rattle.std.specs.Prelude.{◌≡◌, ◌<◌, ◌≤◌, ◌⊎◌, ◌↔◌, List, map, Contains, AllPairs}
use Rattle.opa_model.specs.declared.ids.AttrId.{AttrId}
use Rattle.opa_cells.specs.declared.instance.InstanceId.{InstanceId}
use Rattle.opa_case.specs.Cases.{CaseView, IsLive}
use Rattle.opa_tree.specs.declared.rulebase.Rulebase.{Rulebase}
use Rattle.opa_tree.specs.Ranks.{rank_at}
use Rattle.opa_mean.specs.Reached.Settling.{Waiting}
use Rattle.opa_mean.specs.Reached.Slots.{pairs_of}
use Rattle.opa_mean.specs.declared.reached.slot.Slot.{Slot}
use Rattle.opa_session.specs.declared.settlement.task.Task.{Task}

abbrev pub slots_of : List Task → Waiting
slots_of tasks = map (λ (t : Task). (t.attr, t.inst)) tasks

-- each has the rank of its attribute
abbrev pub AreRanked : Rulebase → List Task → Type 0
AreRanked r tasks = (t : Task) → Contains tasks t → t.rank ≡ rank_at r.ranks t.attr

-- by rank, and then by attribute
abbrev pub ComesFirst : Task → Task → Type 0
ComesFirst t u = (t.rank < u.rank) ⊎ ((t.rank ≡ u.rank) × (t.attr.0 ≤ u.attr.0))

-- the task of a slot
abbrev pub task_of : Rulebase → Slot → Task
task_of r s = record { rank = rank_at r.ranks s.attr; attr = s.attr; inst = s.inst }

abbrev pub AddsTask : Rulebase → Slot → List Task → List Task → Type 0
AddsTask r s old new = (u : Task) → Contains new u ↔ (Contains old u ⊎ (u ≡ task_of r s))

-- Slots wait besides.
pub record Marks (r : Rulebase) (slots : List Slot) (old new : List Task) : Type 0 where
  pub ranked : AreRanked r old → AreRanked r new
  pub waits : (a : AttrId) (i : InstanceId) → Contains (slots_of new) (a, i) ↔ (Contains (slots_of old) (a, i) ⊎ Contains (pairs_of slots) (a, i))

-- Slots of what is live in a case wait besides.
pub record MarksLive (r : Rulebase) (c : CaseView) (slots : List Slot) (old new : List Task) : Type 0 where
  pub ranked : AreRanked r old → AreRanked r new
  pub waits : (a : AttrId) (i : InstanceId) → Contains (slots_of new) (a, i) ↔ (Contains (slots_of old) (a, i) ⊎ (IsLive c i × Contains (pairs_of slots) (a, i)))

-- an attribute comes no later than another: it is of a lower rank, or of the same rank and declared no later
abbrev pub IsNoLater : Rulebase → AttrId → AttrId → Type 0
IsNoLater r a b = (rank_at r.ranks a < rank_at r.ranks b) ⊎ ((rank_at r.ranks a ≡ rank_at r.ranks b) × (a.0 ≤ b.0))

-- slots by rank, and then in declared order of their attributes
abbrev pub AreInOrder : Rulebase → List Slot → Type 0
AreInOrder r slots = AllPairs (λ (x y : Slot). IsNoLater r x.attr y.attr) slots
