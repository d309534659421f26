-- The live instances, entity by entity.
use Rattle.std.specs.Prelude.{◌≡◌, ◌<◌, ℕ, List, [], map, flat_map, length, unwrap_or, slice_index_or}
use Rattle.opa_model.specs.declared.ids.RelId.{RelId}
use Rattle.opa_cells.specs.declared.instance.InstanceId.{InstanceId}
use Rattle.opa_cells.specs.Instances.{named}
use Rattle.opa_case.specs.Cases.{CaseView}
use Rattle.opa_case.specs.Live.{Lists, members}

-- a list for each of the first n entities: its live instances, in instance order
pub record AreInstances (n : ℕ) (c : CaseView) (lists : List (List InstanceId)) : Type 0 where
  pub for_each : length lists ≡ n
  pub in_order : (e : ℕ) → e < n → slice_index_or lists e [] ≡ members e c.live

-- the instances of an entity that containers list, one container after another
abbrev pub listed_by : Lists → RelId → ℕ → List InstanceId → List InstanceId
listed_by l r e containers = flat_map (λ c. map (named e) (unwrap_or (l r c) [])) containers
