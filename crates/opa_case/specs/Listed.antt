-- An index of the names in known lists: a row for each relation, and in it the instances in whose lists a name stands.
use Rattle.std.specs.Prelude.{◌≡◌, ℕ, Bool, false, ◌&&◌, cond, List, Option, None, Some, is_some}
use Rattle.std.specs.List.{list_any}
use Rattle.std.specs.Option.{option_map_or}
use Rattle.std.specs.Map.{lookup}
use Rattle.std.specs.FinMap.{FinMap, get}
use Rattle.std.specs.BTreeMap.{BTreeMap, is_at}
use Rattle.std.specs.Cmp.Lexicographic.{slice_cmp}
use Rattle.std.specs.Ordering.{nat_cmp, eq_by_cmp}
use Rattle.opa_cells.specs.Instances.{instance_cmp, is_text}
use Rattle.opa_cells.specs.Keys.{cell_cmp}
use Rattle.opa_cells.specs.declared.instance.InstanceId.{InstanceId}
use Rattle.opa_case.specs.Live.{Names}

abbrev pub SourceEntries : Type 0
SourceEntries = List (InstanceId × Unit {0})

-- the sources of each name
abbrev pub RowEntries : Type 0
RowEntries = List (List ℕ × BTreeMap InstanceId (Unit {0}))

-- the row of each relation
abbrev pub IndexEntries : Type 0
IndexEntries = List (ℕ × BTreeMap (List ℕ) (BTreeMap InstanceId (Unit {0})))

abbrev pub has_source : SourceEntries → InstanceId → Bool
has_source sources j = is_some (lookup (is_at (instance_cmp j)) sources)

-- an instance is among the sources of a name
abbrev pub is_in_row : RowEntries → List ℕ → InstanceId → Bool
is_in_row row n j = option_map_or (λ sources. has_source sources.entries j) (lookup (is_at (slice_cmp nat_cmp n)) row) false

-- the index has an instance among the sources of a relation's name
abbrev pub is_indexed : IndexEntries → ℕ → List ℕ → InstanceId → Bool
is_indexed index q n j = option_map_or (λ row. is_in_row row.entries n j) (lookup (is_at (nat_cmp q)) index) false

-- a name stands in a list, where that is known
abbrev pub is_named_in : Option Names → List ℕ → Bool
is_named_in None n = false
is_named_in (Some names) n = list_any (is_text n) names

-- The index has of each name the instances in whose lists it stands, and no others.
abbrev pub IsIndexOf : FinMap cell_cmp Names → IndexEntries → Type 0
IsIndexOf lists index = (q : ℕ) (n : List ℕ) (j : InstanceId) → is_indexed index q n j ≡ is_named_in (get lists (q, j)) n

-- two keys of lists are one
abbrev pub is_list : ℕ → InstanceId → ℕ → InstanceId → Bool
is_list number inst q j = eq_by_cmp cell_cmp (q, j) (number, inst)

-- The new sources say b of an instance, and of each other what the old ones say. So do rows and an index below.
abbrev pub SetsSource : Bool → SourceEntries → SourceEntries → InstanceId → Type 0
SetsSource b old new inst = (j : InstanceId) → has_source new j ≡ cond (is_at (instance_cmp inst) j) b (has_source old j)

abbrev pub SetsInRow : Bool → RowEntries → RowEntries → List ℕ → InstanceId → Type 0
SetsInRow b old new name inst = (n : List ℕ) (j : InstanceId) → is_in_row new n j ≡ cond (is_at (slice_cmp nat_cmp name) n && is_at (instance_cmp inst) j) b (is_in_row old n j)

-- of a name at one list
abbrev pub SetsName : Bool → IndexEntries → IndexEntries → ℕ → List ℕ → InstanceId → Type 0
SetsName b old new number name inst = (q : ℕ) (n : List ℕ) (j : InstanceId) → is_indexed new q n j ≡ cond (is_list number inst q j && is_text n name) b (is_indexed old q n j)

-- of some names at one list
abbrev pub SetsNames : Bool → IndexEntries → IndexEntries → ℕ → Names → InstanceId → Type 0
SetsNames b old new number names inst = (q : ℕ) (n : List ℕ) (j : InstanceId) → is_indexed new q n j ≡ cond (is_list number inst q j && list_any (is_text n) names) b (is_indexed old q n j)

-- The new row says what the old one says. So does an index.
abbrev pub SameRow : RowEntries → RowEntries → Type 0
SameRow old new = (n : List ℕ) (j : InstanceId) → is_in_row new n j ≡ is_in_row old n j

abbrev pub SameIndex : IndexEntries → IndexEntries → Type 0
SameIndex old new = (q : ℕ) (n : List ℕ) (j : InstanceId) → is_indexed new q n j ≡ is_indexed old q n j
