-- How live instances are kept: the container of each, and how many there are, of each entity and of all. And sets of names.
use Rattle.std.specs.Prelude.{◌≡◌, ◌==◌, ◌+◌, ◌-◌, ℕ, Bool, List, Option, unwrap_or, is_some, length, filter, bytes_eq}
use Rattle.std.specs.FinMap.{FinMap, get}
use Rattle.std.specs.BTreeMap.{BTreeMap}
use Rattle.std.specs.BTreeMap as tree
use Rattle.std.specs.HashMap.{HashMap, get_by}
use Rattle.std.specs.Ordering.{nat_cmp}
use denote.Ref.{Bor}
use Rattle.opa_cells.specs.Keys.{cell_cmp}
use Rattle.opa_cells.specs.declared.instance.InstanceId.{InstanceId}
use Rattle.opa_case.specs.Live.{Population, container_of}
use Rattle.opa_case.specs.declared.counts.Counts.{Counts}

-- All homes stand in one row.
abbrev pub home_of : FinMap cell_cmp InstanceId → InstanceId → Option InstanceId
home_of homes i = get homes (0, i)

-- how many instances of an entity are counted
abbrev pub count_at : BTreeMap ℕ ℕ → ℕ → ℕ
count_at counts e = unwrap_or (tree.get nat_cmp counts e) 0

-- how many instances of an entity there are
abbrev pub count_of : ℕ → Population → ℕ
count_of e live = length (filter (λ p. p.0.entity.0 == e) live)

abbrev pub AreCounts : Counts → Population → Type 0
AreCounts counts live = ((e : ℕ) → count_at counts.each e ≡ count_of e live) × (counts.total ≡ length live)

-- the counts where some come and some go
abbrev pub AreCountsThen : Counts → Counts → Population → Population → Type 0
AreCountsThen before after come gone = ((e : ℕ) → count_at after.each e ≡ count_at before.each e + count_of e come - count_of e gone) × (after.total ≡ before.total + length come - length gone)

abbrev pub AreHomes : FinMap cell_cmp InstanceId → Population → Type 0
AreHomes homes live = (i : InstanceId) → home_of homes i ≡ container_of live i

-- a set of names has this one
abbrev pub has_name : {S : Type 0} → HashMap (Bor (List ℕ)) (Unit {0}) S → List ℕ → Bool
has_name names n = is_some (get_by (λ k. bytes_eq n k.now) names)
