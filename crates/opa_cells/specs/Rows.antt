-- A map that is kept as a row for each number, and in it a cell for each instance.
use Rattle.std.specs.Prelude.{◌≡◌, ◌+◌, ℕ, Bool, false, cond, ◌==◌, not, List, [], ◌∷◌, ◌++◌, map, Option, None, Some}
use denote.Ref.{Bor}
use Rattle.std.specs.FinMap.{FinMap, empty, entries, from_entries, get, insert, remove, len, retain_keys}
use Rattle.std.specs.BTreeMap.{is_at}
use Rattle.std.specs.Map.{lookup}
use Rattle.std.specs.Ordering.{nat_cmp}
use Rattle.std.specs.declared.cmp.Ordering.{Ordering}
use Rattle.opa_cells.specs.declared.instance.InstanceId.{InstanceId}
use Rattle.opa_cells.specs.Instances.{instance_cmp, is_same}
use Rattle.opa_cells.specs.Keys.{cell_cmp}

-- what there is, if it passes
abbrev pub kept_if : {V : Type 0} → (V → Bool) → Option V → Option V
kept_if p None = None
kept_if p (Some v) = cond (p v) (Some v) None

module _ {V : Type 0} where
  abbrev pub with_cells : ℕ → List (InstanceId × V) → FinMap cell_cmp V → FinMap cell_cmp V
  with_cells n [] m = m
  with_cells n (e ∷ es) m = insert (with_cells n es m) (n, e.0) e.1

  -- the first row of a number counts alone
  abbrev pub with_rows : List (ℕ × FinMap instance_cmp V) → FinMap cell_cmp V
  with_rows [] = empty
  with_rows (r ∷ rs) = with_cells r.0 (entries r.1) (retain_keys (with_rows rs) (λ k. not (k.0 == r.0)))

  -- what entries have at an instance
  abbrev pub cell : List (InstanceId × V) → InstanceId → Option V
  cell es i = lookup (is_at (instance_cmp i)) es

  -- The new row has w at the instance, and at each other what the old one has.
  abbrev pub SetsCell : FinMap instance_cmp V → FinMap instance_cmp V → InstanceId → Option V → Type 0
  SetsCell old new i w = (j : InstanceId) → get new j ≡ cond (is_at (instance_cmp i) j) w (get old j)

-- a row with a cell more
abbrev pub with_one : {V : Type 0} → Option (InstanceId × V) → FinMap instance_cmp V → FinMap instance_cmp V
with_one None m = m
with_one (Some e) m = insert m e.0 e.1

-- there is a cell, and it is of the instance
abbrev pub holds : {V : Type 0} → Option (InstanceId × V) → InstanceId → Bool
holds None i = false
holds (Some e) i = is_same i e.0

-- a row without the instance of a cell
abbrev pub without : {V : Type 0} → FinMap instance_cmp V → Option (InstanceId × V) → FinMap instance_cmp V
without m None = m
without m (Some e) = remove m e.0

-- the cell, if it passes
abbrev pub one_kept : {V : Type 0} → (InstanceId → V → Bool) → Option (InstanceId × V) → Option (InstanceId × V)
one_kept p None = None
one_kept p (Some e) = cond (p e.0 e.1) (Some e) None

-- each row's cells as entries, in order of keys
abbrev pub row_entries : {V : Type 0} → ℕ → List (InstanceId × V) → List ((ℕ × InstanceId) × V)
row_entries n [] = []
row_entries n (e ∷ es) = ((n, e.0), e.1) ∷ row_entries n es

abbrev pub all_entries : {V : Type 0} → List (ℕ × FinMap instance_cmp V) → List ((ℕ × InstanceId) × V)
all_entries [] = []
all_entries (r ∷ rs) = row_entries r.0 (entries r.1) ++ all_entries rs

-- how many cells the rows have
abbrev pub cells_in : {V : Type 0} → List (ℕ × FinMap instance_cmp V) → ℕ
cells_in [] = 0
cells_in (r ∷ rs) = len r.1 + cells_in rs

-- how many cells a map has at a number
abbrev pub cells_at : {V : Type 0} → FinMap cell_cmp V → ℕ → ℕ
cells_at m n = len (retain_keys m (λ k. k.0 == n))

-- a cell that is lent, as an entry
abbrev pub seen : {V : Type 0} → ℕ × Bor InstanceId × Bor V → (ℕ × InstanceId) × V
seen c = ((c.0, c.1.now), c.2.now)

-- the same in a row, and a row that is lent
abbrev pub seen_in : {K V : Type 0} → Bor K × Bor V → K × V
seen_in e = (e.0.now, e.1.now)

-- entries are inserted, one after another
abbrev pub insert_all : {V : Type 0} → FinMap cell_cmp V → List ((ℕ × InstanceId) × V) → FinMap cell_cmp V
insert_all m [] = m
insert_all m (e ∷ es) = insert_all (insert m e.0 e.1) es

-- the same in a row, and of rows
abbrev pub insert_each : {K V : Type 0} {R : K → K → Ordering} → FinMap R V → List (K × V) → FinMap R V
insert_each m [] = m
insert_each m (e ∷ es) = insert_each (insert m e.0 e.1) es

-- rows as a map of their numbers
abbrev pub by_number : {V : Type 0} → List (ℕ × FinMap instance_cmp V) → FinMap nat_cmp (FinMap instance_cmp V)
by_number rs = from_entries rs

-- the map of what a tree refers to
abbrev pub tree_map : {K V : Type 0} → (R : K → K → Ordering) → List (Bor K × Bor V) → FinMap R V
tree_map R ts = from_entries {R = R} (map seen_in ts)
