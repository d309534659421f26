-- The slots of attributes over a list of instances for each entity.
use Rattle.std.specs.Prelude.{List, [], map, flat_map, slice_index_or}
use Rattle.opa_model.specs.declared.ids.AttrId.{AttrId}
use Rattle.opa_cells.specs.declared.instance.InstanceId.{InstanceId}
use Rattle.opa_case.specs.Shapes.{Shape}
use Rattle.opa_mean.specs.Places.{owner_of}

-- an attribute with each instance that is listed for its entity
abbrev pub with_listed : Shape → List (List InstanceId) → AttrId → List (AttrId × InstanceId)
with_listed s live a = map (λ i. (a, i)) (slice_index_or live (owner_of s a) [])

abbrev pub slots_over : Shape → List (List InstanceId) → List AttrId → List (AttrId × InstanceId)
slots_over s live attrs = flat_map (with_listed s live) attrs
