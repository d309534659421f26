-- How rows are gathered: a writer into memory holds their text.
use Rattle.std.specs.Prelude.{◌≡◌, ◌++◌, false, ℕ, List, Option, Some}
use Rattle.csv.specs.Writing.{default_writer, fields_written, has_written, text_written, writer_setup}
use Rattle.csv.specs.declared.writer.Writer.{Writer}
use Rattle.opa_tree.specs.declared.rulebase.Rulebase.{Rulebase}
use Rattle.opa_batch.specs.declared.head.Head.{Head}
use Rattle.opa_batch.specs.Numbered.{AreAdded, HasRows, WritesRow}

-- Between two rows a writer holds this text.
pub record HoldsText {W : Type 0} (contents : W → Option (List ℕ)) (writer : Writer W) (text : List ℕ) : Type 0 where
  pub setup : writer_setup writer ≡ default_writer
  pub between : fields_written writer ≡ 0
  pub clean : has_written writer ≡ false
  pub held : text_written contents writer ≡ Some text

-- A text was added to the one that the writer holds.
pub record AddsText {W : Type 0} (contents : W → Option (List ℕ)) (old new : Writer W) (added : List ℕ) : Type 0 where
  pub adds : (text : List ℕ) → HoldsText contents old text → HoldsText contents new (text ++ added)

-- The row of the record with a number was added.
pub record AddsRow {W : Type 0} (contents : W → Option (List ℕ)) (old new : Writer W) (r : Rulebase) (heads : List Head) (n : ℕ) (fields : List (List ℕ)) : Type 0 where
  pub row : List ℕ
  pub writes : WritesRow r heads n fields row
  pub adds : AddsText contents old new row

-- The rows of the records before a place were added.
pub record AddsRowsTo {W : Type 0} (contents : W → Option (List ℕ)) (old new : Writer W) (r : Rulebase) (heads : List Head) (records : List (List (List ℕ))) (place : ℕ) : Type 0 where
  pub so_far : (first : List ℕ) → HoldsText contents old first → (text : List ℕ) × HoldsText contents new text × AreAdded r heads records first place text

-- The rows of all records were added.
pub record AddsRows {W : Type 0} (contents : W → Option (List ℕ)) (old new : Writer W) (r : Rulebase) (heads : List Head) (records : List (List (List ℕ))) : Type 0 where
  pub all : (first : List ℕ) → HoldsText contents old first → (text : List ℕ) × HoldsText contents new text × HasRows r heads records first text
