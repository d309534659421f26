-- Records that were decided are kept with their rows.
use Rattle.std.specs.Prelude.{◌≡◌, true, false, Bool, ℕ, List, Option}
use Rattle.std.specs.List.{All}
use Rattle.csv.specs.Records.{Row, fields_of}
use Rattle.csv.specs.declared.writer.Writer.{Writer}
use Rattle.opa_tree.specs.declared.rulebase.Rulebase.{Rulebase}
use Rattle.opa_batch.specs.declared.head.Head.{Head}
use Rattle.opa_batch.specs.declared.kept.Kept.{Kept}
use Rattle.opa_batch.specs.Gathered.{AddsRow}
use Rattle.opa_batch.specs.Rows.{IsRow}

-- This is the row of a record with these cells, whatever its number.
pub record IsRowOf (r : Rulebase) (heads : List Head) (fields row : List (List ℕ)) : Type 0 where
  pub number : ℕ
  pub is_row : IsRow r heads number fields row

-- each record that is kept has its row beside it
abbrev pub AreKept : Rulebase → List Head → List Kept → Type 0
AreKept r heads kept = All (λ k. k.is_full ≡ true → IsRowOf r heads (fields_of k.cells) (fields_of k.row)) kept

-- No record is kept.
pub record AreNone (kept : List Kept) : Type 0 where
  pub of : (r : Rulebase) (heads : List Head) → AreKept r heads kept

-- The row of a record with these cells is among those that are kept.
pub record IsKnown (kept : List Kept) (fields : List (List ℕ)) (row : Row) : Type 0 where
  pub of : (r : Rulebase) (heads : List Head) → AreKept r heads kept → IsRowOf r heads fields (fields_of row)

-- A record with its row takes the place of another that was kept.
pub record Keeps (old new : List Kept) (fields row : List (List ℕ)) : Type 0 where
  pub of : (r : Rulebase) (heads : List Head) → AreKept r heads old → IsRowOf r heads fields row → AreKept r heads new

-- the row of the record was known and was added, or nothing was done
abbrev pub AddsKnown : {W : Type 0} → (W → Option (List ℕ)) → List Kept → Bool → Writer W → Writer W → Row → Row → ℕ → Type 0
AddsKnown contents kept true old new row row' n = (r : Rulebase) (heads : List Head) → AreKept r heads kept → AddsRow contents old new r heads n (fields_of row)
AddsKnown contents kept false old new row row' n = (new ≡ old) × (row' ≡ row)
