-- What is told of a change.
use Rattle.std.specs.Prelude.{◌≡◌, ℕ, List, Option, None, Some, filter_map}
use Rattle.std.specs.List.{AllZip}
use Rattle.opa_value.specs.declared.value.Value.{Value}
use Rattle.opa_model.specs.declared.ids.AttrId.{AttrId}
use Rattle.opa_model.specs.declared.lists.Lists.{Lists}
use Rattle.opa_cells.specs.declared.instance.InstanceId.{InstanceId}
use Rattle.opa_case.specs.Shapes.{attribute_or}
use Rattle.opa_listen.specs.declared.change.Change.{Change}
use Rattle.opa_mean.specs.Changes.{Changed, change_of}
use Rattle.opa_mean.specs.Mean.{Base, Facts}

-- The attribute with what the model says of it, the instance, the day, and both values.
pub record TellsOf (m : Lists) (x : Changed) (change : Change) : Type 0 where
  pub attr : change.attr ≡ x.attr
  pub kind : change.kind ≡ (attribute_or m x.attr).kind
  pub phrase : change.phrase ≡ (attribute_or m x.attr).phrase
  pub inst : change.inst ≡ x.inst
  pub day : change.day ≡ x.day
  pub was : change.was ≡ x.old
  pub now_is : change.now ≡ x.new

-- the change is told where there is one, and nothing where there is none
abbrev pub TellsAny : Lists → Option Changed → Option Change → Type 0
TellsAny m None None = Unit {0}
TellsAny m None (Some change) = ⊥
TellsAny m (Some x) None = ⊥
TellsAny m (Some x) (Some change) = TellsOf m x change

-- the changes of these slots, in their order
abbrev pub changes_among : Base → Facts → Facts → List (AttrId × InstanceId) → List Changed
changes_among b c c' slots = filter_map (λ s. change_of b c c' s.0 s.1) slots

-- another value from a day on
abbrev pub moved : (ℕ → Value) → (ℕ → Value) → AttrId → InstanceId → ℕ → Changed
moved before after a i d = record { attr = a; inst = i; day = d; old = before d; new = after d }

-- Changes are told in one way.
abbrev pub ToldOnce : Type 0
ToldOnce = (m : Lists) (xs : List Changed) (told others : List Change) → AllZip (TellsOf m) xs told → AllZip (TellsOf m) xs others → told ≡ others
