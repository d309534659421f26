-- Cells in any order.
use Rattle.std.specs.Prelude.{◌≡◌, ◌+◌, ℕ, cond, List, [], ◌∷◌, Option, Some, Contains, length}
use Rattle.std.specs.FinMap.{FinMap, get, len}
use Rattle.std.proofs.Common.{◌⊎◌}
use Rattle.opa_cells.specs.declared.instance.InstanceId.{InstanceId}
use Rattle.opa_cells.specs.Instances.{instance_cmp}
use Rattle.opa_cells.specs.Keys.{cell_cmp}
use Rattle.opa_cells.specs.Rows.{cells_in, holds}

module _ {V : Type 0} where
  -- each cell of the map is among entries
  abbrev pub HasCells : FinMap cell_cmp V → List ((ℕ × InstanceId) × V) → Type 0
  HasCells m es = (k : ℕ × InstanceId) (v : V) → get m k ≡ Some v → Contains es (k, v)

  -- the entries are the cells of the map, each of them once
  pub record AreCells (m : FinMap cell_cmp V) (es : List ((ℕ × InstanceId) × V)) : Type 0 where
    pub all : HasCells m es
    pub only : (e : (ℕ × InstanceId) × V) → Contains es e → get m e.0 ≡ Some e.1
    pub once : length es ≡ len m

  -- each cell of a row is among entries
  abbrev pub HasRow : ℕ → FinMap instance_cmp V → List ((ℕ × InstanceId) × V) → Type 0
  HasRow n row es = (i : InstanceId) (v : V) → get row i ≡ Some v → Contains es ((n, i), v)

  -- the entry is a cell of the row
  abbrev pub IsInRow : ℕ → FinMap instance_cmp V → (ℕ × InstanceId) × V → Type 0
  IsInRow n row e = (e.0.0 ≡ n) × (get row e.0.1 ≡ Some e.1)

  -- the new entries have what the old ones have
  abbrev pub Keeps : List ((ℕ × InstanceId) × V) → List ((ℕ × InstanceId) × V) → Type 0
  Keeps old new = (e : (ℕ × InstanceId) × V) → Contains old e → Contains new e

  pub record AddsCells (m : FinMap cell_cmp V) (old new : List ((ℕ × InstanceId) × V)) : Type 0 where
    pub kept : Keeps old new
    pub added : HasCells m new
    pub only : (e : (ℕ × InstanceId) × V) → Contains new e → Contains old e ⊎ (get m e.0 ≡ Some e.1)
    pub count : length new ≡ length old + len m

  pub record AddsRow (n : ℕ) (row : FinMap instance_cmp V) (old new : List ((ℕ × InstanceId) × V)) : Type 0 where
    pub kept : Keeps old new
    pub added : HasRow n row new
    pub only : (e : (ℕ × InstanceId) × V) → Contains new e → Contains old e ⊎ IsInRow n row e
    pub count : length new ≡ length old + len row

  -- a row has the entry
  pub record IsInRows (rs : List (ℕ × FinMap instance_cmp V)) (e : (ℕ × InstanceId) × V) : Type 0 where
    pub row : ℕ × FinMap instance_cmp V
    pub stands : Contains rs row
    pub here : IsInRow row.0 row.1 e

  pub record AddsRows (rs : List (ℕ × FinMap instance_cmp V)) (old new : List ((ℕ × InstanceId) × V)) : Type 0 where
    pub kept : Keeps old new
    pub added : (r : ℕ × FinMap instance_cmp V) → Contains rs r → HasRow r.0 r.1 new
    pub only : (e : (ℕ × InstanceId) × V) → Contains new e → Contains old e ⊎ IsInRows rs e
    pub count : length new ≡ length old + cells_in rs

-- entries but that of the cell, if there is one
abbrev pub besides : {V : Type 0} → Option (InstanceId × V) → List (InstanceId × V) → List (InstanceId × V)
besides one [] = []
besides one (e ∷ es) = cond (holds one e.0) (besides one es) (e ∷ besides one es)
