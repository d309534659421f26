-- Which instance an attribute, or the source of a relation, belongs to.
use Rattle.std.specs.Prelude.{ℕ, zero, suc, Bool, ◌==◌, List, [], ◌∷◌, Option, find, flat_map}
use Rattle.std.specs.Option.{option_map_or}
use Rattle.opa_model.specs.declared.ids.AttrId.{AttrId}
use Rattle.opa_case.specs.Shapes.{Shape}
use Rattle.opa_cells.specs.declared.instance.InstanceId.{InstanceId}

-- the entity whose instances have the attribute
abbrev pub owner_of : Shape → AttrId → ℕ
owner_of s a = (s.attribute a).entity.0

-- an instance and its containers, the nearest first, at most n of them
abbrev pub climb : (InstanceId → Option InstanceId) → ℕ → InstanceId → List InstanceId
climb container zero i = i ∷ []
climb container (suc n) i = i ∷ option_map_or (climb container n) (container i) []

-- The instance and its containers up to the global one. A container is of an earlier entity, so there are at most as many
-- as there are entities before its own.
abbrev pub chain : (InstanceId → Option InstanceId) → InstanceId → List InstanceId
chain container i = climb container i.entity.0 i

abbrev pub is_of : ℕ → InstanceId → Bool
is_of e i = i.entity.0 == e

-- The enclosing instances are gone through from the innermost outward, each followed by its containers: the first instance
-- of the entity.
abbrev pub place : (InstanceId → Option InstanceId) → List InstanceId → ℕ → Option InstanceId
place container enclosing e = find (is_of e) (flat_map (chain container) enclosing)
