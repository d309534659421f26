-- Which instances known lists make live, and in which order.
use Rattle.std.specs.Prelude.{ℕ, zero, suc, ◌-◌, ◌==◌, Bool, ◌||◌, cond, List, [], ◌∷◌, ◌++◌, Option, None, Some, unwrap_or, map, filter, flat_map}
use Rattle.std.specs.List.{list_any}
use Rattle.std.specs.Option.{option_map, option_and_then}
use Rattle.std.specs.Map.{lookup}
use Rattle.opa_model.specs.declared.ids.RelId.{RelId}
use Rattle.opa_cells.specs.declared.instance.InstanceId.{InstanceId}
use Rattle.opa_cells.specs.Instances.{is_same, global, named}
use Rattle.opa_case.specs.Shapes.{Shape}

abbrev pub Names : Type 0
Names = List (List ℕ)

-- the list of a relation at an instance, where it is known
abbrev pub Lists : Type 0
Lists = RelId → InstanceId → Option Names

-- instances but the global one, each with its container
abbrev pub Population : Type 0
Population = List (InstanceId × InstanceId)

-- the instances of an entity
abbrev pub members : ℕ → Population → List InstanceId
members e live = cond (e == 0) (global ∷ []) (map (λ p. p.0) (filter (λ p. p.0.entity.0 == e) live))

-- the instances of these names, in the container
abbrev pub in_container : ℕ → InstanceId → Names → Population
in_container e c names = map (λ n. (named e n, c)) names

abbrev pub held_names : ℕ → InstanceId → Option Names → Population
held_names e c names = in_container e c (unwrap_or names [])

-- what a container has of an entity
abbrev pub held : Shape → Lists → ℕ → InstanceId → Population
held s l e c = held_names e c (l (s.contained e) c)

-- The live instances of the entities 1 to n, in instance order: by entity, then by the container's order, then by place in the list.
unfoldable pub live_upto : Shape → Lists → ℕ → Population
live_upto s l zero = []
live_upto s l (suc n) = live_upto s l n ++ flat_map (held s l (suc n)) (members (s.parent (suc n)) (live_upto s l n))

abbrev pub live_of : Shape → Lists → Population
live_of s l = live_upto s l (s.count - 1)

abbrev pub container_of : Population → InstanceId → Option InstanceId
container_of live i = lookup (is_same i) live

abbrev pub is_live : Population → InstanceId → Bool
is_live live i = is_same i global || list_any (λ p. is_same i p.0) live

-- the lists, one after the other, where all are known
abbrev pub gathered : List (Option Names) → Option Names
gathered [] = Some []
gathered (None ∷ lists) = None
gathered (Some names ∷ lists) = option_map (λ rest. names ++ rest) (gathered lists)

-- All instances of an entity, where all lists that lead to them are known; n bounds the steps up to the global one.
unfoldable pub walk : Shape → Lists → ℕ → ℕ → Option (List InstanceId)
walk s l zero e = Some (global ∷ [])
walk s l (suc n) e = cond (e == 0) (Some (global ∷ []))
    (option_and_then (λ containers. option_map (map (named e)) (gathered (map (l (s.contained e)) containers))) (walk s l n (s.parent e)))
