-- What the records of a table spell.
use Rattle.std.specs.Prelude.{◌≡◌, ◌≢◌, ◌≤◌, ◌+◌, ℕ, List, [], ◌∷◌, ◌++◌, Bool, true, false, length, map, take, drop}
use Rattle.std.specs.List.{list_all}
use Rattle.opa_model.specs.declared.lists.Lists.{Lists}
use Rattle.opa_sentence.specs.declared.names.Names.{Names}
use Rattle.opa_parse.specs.declared.tables.cells.Case.{Case}
use Rattle.opa_parse.specs.declared.tables.cells.Cased.{Cased}
use Rattle.opa_parse.specs.declared.tables.cells.Cased.TheVariants as cased
use Rattle.opa_parse.specs.declared.tables.cells.Found.{Found}
use Rattle.opa_parse.specs.declared.tables.cells.Found.TheVariants as found
use Rattle.opa_parse.specs.declared.tables.cells.Heading.{Heading}
use Rattle.opa_parse.specs.declared.tables.cells.Heading.TheVariants as heading
use Rattle.opa_parse.specs.declared.tables.cells.Heads.{Heads}
use Rattle.opa_parse.specs.declared.tables.cells.Last.{Last}
use Rattle.opa_parse.specs.declared.tables.cells.Table.{Table}
use Rattle.opa_parse.specs.Tables.Cells.{IsHeadCell, IsConditionCell, IsValueCell, IsOtherwiseCell}

-- each of the first with that of the others in its place
abbrev pub Each : {A B : Type 0} → (A → B → Type 0) → List A → List B → Type 0
Each R [] [] = Unit {0}
Each R [] (y ∷ ys) = ⊥
Each R (x ∷ xs) [] = ⊥
Each R (x ∷ xs) (y ∷ ys) = R x y × Each R xs ys

-- ---- the first record

-- the condition heads, and then the conclusion heads
abbrev pub headings : Heads → List Heading
headings h = map (λ x. heading.Condition x) h.conditions ++ map (λ a. heading.Conclusion a) h.conclusions

-- Condition heads stand before conclusion heads, of which there is one at least.
pub record AreHeads (m : Lists) (ns : Names) (cells : List (List ℕ)) (h : Heads) : Type 0 where
  pub cells_say : Each (IsHeadCell m ns) cells (headings h)
  pub concludes : h.conclusions ≢ []

-- how many cells each record has
abbrev pub width : Heads → ℕ
width h = length h.conditions + length h.conclusions

-- ---- the others

-- below the condition heads, and below the conclusion heads
abbrev pub condition_cells : Heads → List (List ℕ) → List (List ℕ)
condition_cells h cells = take (length h.conditions) cells

abbrev pub value_cells : Heads → List (List ℕ) → List (List ℕ)
value_cells h cells = drop (length h.conditions) cells

-- a record with conditions and the values that stand where they are met
pub record IsCase (ns : Names) (h : Heads) (number : ℕ) (cells : List (List ℕ)) (r : Case) : Type 0 where
  pub number_is : r.number ≡ number
  pub wide : length cells ≡ width h
  pub tests : Each (IsConditionCell ns) (condition_cells h cells) r.tests
  pub values : Each (IsValueCell ns) (value_cells h cells) r.values

abbrev pub is_empty : List ℕ → Bool
is_empty [] = true
is_empty (c ∷ cs) = false

-- `otherwise`, and empty cells; nothing where there are no conditions
abbrev pub AreOtherwise : List (List ℕ) → Type 0
AreOtherwise [] = Unit {0}
AreOtherwise (cell ∷ cells) = IsOtherwiseCell cell × (list_all is_empty cells ≡ true)

-- the last record: the values that stand where no case is met
pub record IsLast (ns : Names) (h : Heads) (number : ℕ) (cells : List (List ℕ)) (x : Last) : Type 0 where
  pub number_is : x.number ≡ number
  pub wide : length cells ≡ width h
  pub otherwise : AreOtherwise (condition_cells h cells)
  pub values : Each (IsValueCell ns) (value_cells h cells) x.values

-- cases, counted from this number
abbrev pub AreCases : Names → Heads → ℕ → List (List (List ℕ)) → List Case → Type 0
AreCases ns h n [] [] = Unit {0}
AreCases ns h n [] (r ∷ rs) = ⊥
AreCases ns h n (cells ∷ more) [] = ⊥
AreCases ns h n (cells ∷ more) (r ∷ rs) = IsCase ns h n cells r × AreCases ns h (n + 1) more rs

-- the record of this number is the first that is no case, where the first one has number 2
pub record IsFirstOdd (ns : Names) (h : Heads) (records : List (List (List ℕ))) (number : ℕ) : Type 0 where
  pub before : List (List (List ℕ))
  pub cases : List Case
  pub cells : List (List ℕ)
  pub after : List (List (List ℕ))
  pub split : records ≡ before ++ cells ∷ after
  pub are_cases : AreCases ns h 2 before cases
  pub number_is : number ≡ length before + 2
  pub odd : (r : Case) → IsCase ns h number cells r → ⊥

-- all records are cases, or this one is the first that isn't
abbrev pub AreCased : Names → Heads → List (List (List ℕ)) → Cased → Type 0
AreCased ns h records (cased.Cases cs) = AreCases ns h 2 records cs
AreCased ns h records (cased.Unspelled n) = IsFirstOdd ns h records n

abbrev pub table : Heads → List Case → Last → Table
table h cs x = record { heads = h; cases = cs; last = x }

-- the last record after cases, or its number where it isn't one
abbrev pub IsEnd : Names → Heads → List Case → ℕ → List (List ℕ) → Found → Type 0
IsEnd ns h cs n cells (found.Table t) = (x : Last) × IsLast ns h n cells x × (t ≡ table h cs x)
IsEnd ns h cs n cells (found.Unspelled k) = (k ≡ n) × ((x : Last) → IsLast ns h n cells x → ⊥)

-- What the records after the first are: with conditions, cases and the last record; without, one record alone. Where they aren't, the first record that isn't spelled so is told.
pub data IsBelow (ns : Names) (h : Heads) : List (List (List ℕ)) → Found → Type 0 where
  values : {records : List (List (List ℕ))} {x : Last} (cells : List (List ℕ)) → h.conditions ≡ [] → records ≡ cells ∷ [] → IsLast ns h 2 cells x → IsBelow ns h records (found.Table (table h [] x))
  no_values : {records : List (List (List ℕ))} (more : List (List (List ℕ))) (cells : List (List ℕ)) → h.conditions ≡ [] → records ≡ cells ∷ more → ((x : Last) → IsLast ns h 2 cells x → ⊥) → IsBelow ns h records (found.Unspelled 2)
  too_many : {records : List (List (List ℕ))} (more : List (List (List ℕ))) (cells others : List (List ℕ)) (x : Last) → h.conditions ≡ [] → records ≡ cells ∷ others ∷ more → IsLast ns h 2 cells x → IsBelow ns h records (found.Unspelled 3)
  cases : {records : List (List (List ℕ))} {cs : List Case} {x : Last} (middle : List (List (List ℕ))) (cells : List (List ℕ))
      → h.conditions ≢ [] → records ≡ middle ++ cells ∷ [] → AreCases ns h 2 middle cs → IsLast ns h (length middle + 2) cells x → IsBelow ns h records (found.Table (table h cs x))
  no_case : {records : List (List (List ℕ))} {n : ℕ} (middle : List (List (List ℕ))) (cells : List (List ℕ)) → h.conditions ≢ [] → records ≡ middle ++ cells ∷ [] → IsFirstOdd ns h middle n → IsBelow ns h records (found.Unspelled n)
  no_last : {records : List (List (List ℕ))} (middle : List (List (List ℕ))) (cells : List (List ℕ)) (cs : List Case)
      → h.conditions ≢ [] → records ≡ middle ++ cells ∷ [] → AreCases ns h 2 middle cs → ((x : Last) → IsLast ns h (length middle + 2) cells x → ⊥) → IsBelow ns h records (found.Unspelled (length middle + 2))

-- What the records spell: a table, or the number of the first record that isn't spelled. There are two records at least.
pub data IsFound (m : Lists) (ns : Names) : List (List (List ℕ)) → Found → Type 0 where
  too_few : {records : List (List (List ℕ))} → length records ≤ 1 → IsFound m ns records (found.Unspelled 1)
  no_heads : {records : List (List (List ℕ))} (more : List (List (List ℕ))) (cells : List (List ℕ)) → records ≡ cells ∷ more → ((h : Heads) → AreHeads m ns cells h → ⊥) → IsFound m ns records (found.Unspelled 1)
  headed : {records : List (List (List ℕ))} {f : Found} (more : List (List (List ℕ))) (cells : List (List ℕ)) (h : Heads) → records ≡ cells ∷ more → more ≢ [] → AreHeads m ns cells h → IsBelow ns h more f → IsFound m ns records f
