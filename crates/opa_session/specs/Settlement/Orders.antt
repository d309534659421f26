-- The order in which slots are derived.
use Rattle.std.specs.Prelude.{List, All, Contains}
use Rattle.opa_model.specs.declared.ids.AttrId.{AttrId}
use Rattle.opa_cells.specs.declared.instance.InstanceId.{InstanceId}
use Rattle.opa_tree.specs.declared.rulebase.Rulebase.{Rulebase}
use Rattle.opa_mean.specs.Reached.Settling.{Waiting}
use Rattle.opa_mean.specs.declared.reached.slot.Slot.{Slot}
use Rattle.opa_session.specs.Settlement.Tasks.{AreInOrder, IsNoLater}

-- Slots that were derived are in order, and no later than what waits.
pub record StandBefore (r : Rulebase) (slots : List Slot) (waiting : Waiting) : Type 0 where
  pub order : AreInOrder r slots
  pub before : (a : AttrId) (i : InstanceId) → Contains waiting (a, i) → All (λ (x : Slot). IsNoLater r x.attr a) slots
