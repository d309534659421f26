-- What a tree is evaluated over: the value of an attribute at a day, the list of a relation and the container of an
-- instance are what a look gives.
use Rattle.std.specs.Prelude.{ℕ, Option}
use Rattle.opa_value.specs.declared.value.Value.{Value}
use Rattle.opa_model.specs.declared.ids.AttrId.{AttrId}
use Rattle.opa_cells.specs.declared.instance.InstanceId.{InstanceId}
use Rattle.opa_case.specs.Live.{Lists}

-- unknown where there is no value, and no list where it is unknown
pub record Look : Type 0 where
  pub value : AttrId → InstanceId → ℕ → Value
  pub members : Lists
  pub container : InstanceId → Option InstanceId
