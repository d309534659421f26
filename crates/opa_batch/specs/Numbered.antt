-- On the way to rows: what one goal's cell is, what was found of a record, and where the reading of its cells stands.
use Rattle.std.specs.Prelude.{◌≡◌, ◌≤◌, ◌+◌, ◌++◌, ◌∷◌, ℕ, List, map, drop, slice_get, Option, None, Some, Result, Ok, Err}
use Rattle.opa_model.specs.declared.ids.AttrId.{AttrId}
use Rattle.opa_case.specs.Cases.{CaseView}
use Rattle.opa_session.specs.Infer.Sessions.{reached}
use Rattle.opa_tree.specs.declared.rulebase.Rulebase.{Rulebase}
use Rattle.opa_batch.specs.declared.head.Head.{Head}
use Rattle.opa_batch.specs.Rows.{AreCells, IsRow}
use Rattle.opa_batch.specs.Batches.{AreRows, written_row}
use Rattle.opa_batch.specs.Counting.{CellsReach, RecordsReach, due}

-- the cell of the goal with the number
abbrev pub IsGoalCell : (AttrId → List ℕ) → List AttrId → ℕ → List ℕ → Type 0
IsGoalCell cell goals n text = (a : AttrId) → slice_get goals n ≡ Some a → text ≡ cell a

-- the case that is held, or a fault
abbrev pub left_by : Option (List ℕ) → CaseView → Result CaseView (List ℕ)
left_by None c = Ok c
left_by (Some text) c = Err text

-- What the cells from a place on make of the case at that place, all cells make of the case at the first.
pub record IsOnTheWay (r : Rulebase) (heads : List Head) (cells : List (List ℕ)) (first : CaseView) (place : ℕ) (c : CaseView) : Type 0 where
  pub leads : (x : Result CaseView (List ℕ)) → AreCells r (place + 1) c (drop place heads) (drop place cells) x → AreCells r 1 first heads cells x

-- With those of the goals from a number on, these are a first cell and the cells of all goals.
abbrev pub AreUpTo : (AttrId → List ℕ) → List AttrId → List ℕ → ℕ → List (List ℕ) → Type 0
AreUpTo cell goals first n cells = cells ++ map cell (drop n goals) ≡ first ∷ map cell goals

-- The row of a record, as it is written.
pub record WritesRow (r : Rulebase) (heads : List Head) (n : ℕ) (fields : List (List ℕ)) (text : List ℕ) : Type 0 where
  pub cells : List (List ℕ)
  pub is_row : IsRow r heads n fields cells
  pub whole : text ≡ written_row cells

-- The rows of records behind a text.
pub record HasRows (r : Rulebase) (heads : List Head) (records : List (List (List ℕ))) (before text : List ℕ) : Type 0 where
  pub rows : List ℕ
  pub are_rows : AreRows r heads 1 records rows
  pub whole : text ≡ before ++ rows

-- With the rows of the records from a place on, this text is the first one and the rows of all records.
pub record AreAdded (r : Rulebase) (heads : List Head) (records : List (List (List ℕ))) (first : List ℕ) (place : ℕ) (text : List ℕ) : Type 0 where
  pub adds : (more : List ℕ) → AreRows r heads (place + 1) (drop place records) more → HasRows r heads records first (text ++ more)

-- So many lines the cells before a place reach one by one, and no more are reached at once; what is reached from there on comes to it.
pub record CountsCells (r : Rulebase) (heads : List Head) (cells : List (List ℕ)) (first : CaseView) (place : ℕ) (c : CaseView) : Type 0 where
  pub counted : ℕ
  pub few : reached r first c ≤ counted
  pub leads : (rest : ℕ) → CellsReach r (place + 1) c (drop place heads) (drop place cells) rest → CellsReach r 1 first heads cells (counted + rest)

-- So many lines the records before a place reach, and no more steps were counted; what is reached from there on comes to it.
pub record CountsRecords (r : Rulebase) (heads : List Head) (records : List (List (List ℕ))) (place before now : ℕ) : Type 0 where
  pub counted : ℕ
  pub few : now + due r place ≤ before + counted
  pub leads : (rest : ℕ) → RecordsReach r heads (drop place records) rest → RecordsReach r heads records (counted + rest)
