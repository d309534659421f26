-- What a batch writes: a heading, and the row of each record; or why it is refused.
use Rattle.std.specs.Prelude.{◌≡◌, ◌⊎◌, ◌+◌, ℕ, List, [], ◌∷◌, ◌++◌, map, codes}
use Rattle.csv.specs.Writing.{default_writer, row_text}
use Rattle.opa_io.specs.declared.fault.Status.{Status}
use Rattle.opa_io.specs.declared.fault.Status.TheVariants as status
use Rattle.opa_model.specs.declared.ids.AttrId.{AttrId}
use Rattle.opa_case.specs.Shapes.{attribute_or}
use Rattle.opa_parse.specs.Tables.Records.{table_records}
use Rattle.opa_tree.specs.declared.rulebase.Rulebase.{Rulebase}
use Rattle.opa_batch.specs.declared.head.Head.{Head}
use Rattle.opa_batch.specs.Heads.{AreHeads, IsFirstRefusal}
use Rattle.opa_batch.specs.Rows.{IsRow}

-- a record as it is written: a comma between cells, quotes around those that need them, a line feed at its end
abbrev pub written_row : List (List ℕ) → List ℕ
written_row row = row_text default_writer row

abbrev pub goal_phrase : Rulebase → AttrId → List ℕ
goal_phrase r a = (attribute_or r.model a).phrase

abbrev pub heading : Rulebase → List (List ℕ)
heading r = codes "row" ∷ (map (goal_phrase r) r.model.goals ++ codes "fault" ∷ [])

-- the rows of records, the first of which has this number, one after another
abbrev pub AreRows : Rulebase → List Head → ℕ → List (List (List ℕ)) → List ℕ → Type 0
AreRows r heads n [] text = text ≡ []
AreRows r heads n (cells ∷ records) text =
    (row : List (List ℕ)) × IsRow r heads n cells row × ((rest : List ℕ) × AreRows r heads (n + 1) records rest × (text ≡ written_row row ++ rest))

abbrev pub no_heading : List ℕ
no_heading = codes "refused: no heading" ++ 10 ∷ []

-- every head is one, and the heading and the rows are written
pub record IsDecided (r : Rulebase) (first : List (List ℕ)) (records : List (List (List ℕ))) (text : List ℕ) : Type 0 where
  pub heads : List Head
  pub are_heads : AreHeads r.model first heads
  pub rows : List ℕ
  pub are_rows : AreRows r heads 1 records rows
  pub whole : text ≡ written_row (heading r) ++ rows

abbrev pub GivesOf : Rulebase → List (List (List ℕ)) → Status → List ℕ → Type 0
GivesOf r [] good text = (good ≡ status.Refused) × (text ≡ no_heading)
GivesOf r (first ∷ records) good text = ((good ≡ status.Refused) × IsFirstRefusal r.model 1 first text) ⊎ ((good ≡ status.Done) × IsDecided r first records text)

-- What a batch answers and writes of an input over an accepted rulebase.
abbrev pub Gives : Rulebase → List ℕ → Status → List ℕ → Type 0
Gives r bytes good text = GivesOf r (table_records bytes) good text
