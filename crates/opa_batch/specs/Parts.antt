-- A table in parts: the rows of its records are those of the first part, and then those of the second, each with its own number.
use Rattle.std.specs.Prelude.{◌≡◌, ◌+◌, ℕ, List, [], ◌∷◌, ◌++◌, length, map, Result, Ok, Err}
use Rattle.std.specs.Fmt.{decimal}
use Rattle.std.specs.List.{AllZip}
use Rattle.opa_case.specs.Cases.{CaseView}
use Rattle.opa_tree.specs.declared.rulebase.Rulebase.{Rulebase}
use Rattle.opa_batch.specs.declared.head.Head.{Head}
use Rattle.opa_batch.specs.Batches.{AreRows, written_row}
use Rattle.opa_batch.specs.Rows.{IsRecord, goal_cell, empty_cell}

-- what a row says behind its number: what the goals are, and a fault
abbrev pub content_of : Rulebase → Result CaseView (List ℕ) → List (List ℕ)
content_of r (Ok c) = map (goal_cell r c) r.model.goals ++ [] ∷ []
content_of r (Err text) = map empty_cell r.model.goals ++ text ∷ []

-- the record's own cells make this content, and nothing else
abbrev pub IsContent : Rulebase → List Head → List (List ℕ) → List (List ℕ) → Type 0
IsContent r heads cells content = (x : Result CaseView (List ℕ)) × IsRecord r heads cells x × (content ≡ content_of r x)

-- rows with these contents, the first of which has this number
abbrev pub numbered : ℕ → List (List (List ℕ)) → List ℕ
numbered n [] = []
numbered n (content ∷ contents) = written_row (decimal n ∷ content) ++ numbered (n + 1) contents

-- Rows of two parts, whatever numbers they have, are rows of the whole once they are numbered on.
pub record AreOfParts (r : Rulebase) (heads : List Head) (n m k : ℕ) (first second : List (List (List ℕ))) (one two : List ℕ) : Type 0 where
  pub front : List (List (List ℕ))
  pub back : List (List (List ℕ))
  pub one_is : one ≡ numbered n front
  pub two_is : two ≡ numbered m back
  pub front_of : AllZip (IsContent r heads) first front
  pub back_of : AllZip (IsContent r heads) second back
  pub whole : AreRows r heads k (first ++ second) (numbered k front ++ numbered (k + length first) back)

abbrev pub PartsAreTheWhole : Type 0
PartsAreTheWhole = (r : Rulebase) (heads : List Head) (n m k : ℕ) (first second : List (List (List ℕ))) (one two : List ℕ)
    → AreRows r heads n first one → AreRows r heads m second two → AreOfParts r heads n m k first second one two
