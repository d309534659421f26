-- What a map is after its value at a key was lent.
use Rattle.std.specs.Prelude.{ℕ, Option}
use Rattle.std.specs.Borrow.{Fml, RattleType, MutBor, LendsIf}
use Rattle.std.specs.FinMap.{FinMap, insert}
use Rattle.opa_cells.specs.declared.instance.InstanceId.{InstanceId}
use Rattle.opa_cells.specs.Keys.{cell_cmp}
use Rattle.opa_cells.specs.contracts.cells.Cells.{the_row as cells_row}
use Rattle.opa_cells.specs.Instances.{instance_cmp}
use Rattle.opa_cells.specs.contracts.rows.Rows.{the_row as rows_row}
use Rattle.opa_cells.specs.contracts.row.Row.{the_row as row_row}
use Rattle.opa_cells.specs.contracts.others.Others.{the_row as others_row}

-- the map ends with what was left behind the reference in the place of the value at the key, and as it was where there is none
module _ (V : RattleType) where
  abbrev pub lends_cell : MutBor (FinMap cell_cmp V.Denot) → ℕ → InstanceId → Option (MutBor V.Denot) → Fml
  lends_cell s n i r = LendsIf (cells_row V) V s r (λ w. insert s.now (n, i) w) s.now

  abbrev pub lends_row_cell : MutBor (FinMap cell_cmp V.Denot) → ℕ → InstanceId → Option (MutBor V.Denot) → Fml
  lends_row_cell s n i r = LendsIf (rows_row V) V s r (λ w. insert s.now (n, i) w) s.now

  abbrev pub lends_in_row : MutBor (FinMap instance_cmp V.Denot) → InstanceId → Option (MutBor V.Denot) → Fml
  lends_in_row s i r = LendsIf (row_row V) V s r (λ w. insert s.now i w) s.now

  abbrev pub lends_in_others : MutBor (FinMap instance_cmp V.Denot) → InstanceId → Option (MutBor V.Denot) → Fml
  lends_in_others s i r = LendsIf (others_row V) V s r (λ w. insert s.now i w) s.now
