-- Wanted instances: those of slots, and whatever contains them.
use Rattle.std.specs.Prelude.{◌≡◌, ◌<◌, ◌⊎◌, ℕ, Bool, true, false, List, [], filter, map, flat_map, length, unwrap_or, slice_index_or, Some, is_some, Contains}
use Rattle.std.specs.Option.{option_map_or}
use Rattle.std.specs.BTreeMap.{BTreeMap}
use Rattle.std.specs.BTreeMap as tree
use Rattle.std.specs.Cmp.Lexicographic.{slice_cmp}
use Rattle.std.specs.Ordering.{nat_cmp}
use Rattle.opa_model.specs.declared.ids.RelId.{RelId}
use Rattle.opa_cells.specs.Instances.{named}
use Rattle.opa_cells.specs.declared.instance.InstanceId.{InstanceId}
use Rattle.opa_case.specs.Live.{Lists, Population, members, container_of}
use Rattle.opa_mean.specs.declared.reached.slot.Slot.{Slot}
use Rattle.opa_session.specs.declared.telling.wanted.Wanted.{Wanted}

-- a set of names has this one
abbrev pub has_name : BTreeMap (List ℕ) (Unit {0}) → List ℕ → Bool
has_name names n = is_some (tree.get (slice_cmp nat_cmp) names n)

abbrev pub has_wanted : Wanted → InstanceId → Bool
has_wanted w i = option_map_or (λ names. has_name names i.name) (tree.get nat_cmp w.names i.entity.0) false

-- whatever contains one that is wanted is wanted
abbrev pub IsClosed : Population → (InstanceId → Bool) → Type 0
IsClosed live wanted = (i d : InstanceId) → wanted i ≡ true → container_of live i ≡ Some d → wanted d ≡ true

-- the same but for one container
abbrev pub IsClosedBut : Population → (InstanceId → Bool) → InstanceId → Type 0
IsClosedBut live wanted x = (i d : InstanceId) → wanted i ≡ true → container_of live i ≡ Some d → (wanted d ≡ true) ⊎ (d ≡ x)

pub record AreWanted (live : Population) (slots : List Slot) (wanted : InstanceId → Bool) : Type 0 where
  pub each : (s : Slot) → Contains slots s → wanted s.inst ≡ true
  pub closed : IsClosed live wanted

-- an instance is added, with whatever contains it
pub record AddsUpward (live : Population) (old new : InstanceId → Bool) (i : InstanceId) : Type 0 where
  pub here : new i ≡ true
  pub more : (j : InstanceId) → old j ≡ true → new j ≡ true
  pub closed : IsClosed live new

-- of the instances of an entity that containers list those that are wanted
abbrev pub wanted_listed : (InstanceId → Bool) → Lists → RelId → ℕ → List InstanceId → List InstanceId
wanted_listed wanted l r e containers = flat_map (λ c. filter wanted (map (named e) (unwrap_or (l r c) []))) containers

-- a list for each of the first n entities: its live instances that are wanted, in instance order
pub record AreAmong (n : ℕ) (live : Population) (wanted : InstanceId → Bool) (lists : List (List InstanceId)) : Type 0 where
  pub for_each : length lists ≡ n
  pub in_order : (e : ℕ) → e < n → slice_index_or lists e [] ≡ filter wanted (members e live)
