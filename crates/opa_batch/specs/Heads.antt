-- The heads of a batch's columns: each is a point of an attribute or of a relation, whose cells are answers or names.
use Rattle.std.specs.Prelude.{◌≡◌, ◌+◌, ◌≢◌, ◌⊎◌, ℕ, List, [], ◌∷◌, ◌++◌, codes}
use Rattle.std.specs.Fmt.{decimal}
use Rattle.std.specs.List.{AllZip}
use Rattle.opa_model.specs.declared.lists.Lists.{Lists}
use Rattle.opa_words.specs.Pieces.{Piece}
use Rattle.opa_text.specs.declared.pointed.Point.{Point}
use Rattle.opa_text.specs.Pointed.{SpellsPoint}
use Rattle.opa_script.specs.Lines.{HasTokens}
use Rattle.opa_script.specs.Commands.{IsAttribute, IsRelation, NamesNothing}
use Rattle.opa_batch.specs.declared.head.Head.{Head}
use Rattle.opa_batch.specs.declared.head.Sort.{Sort}
use Rattle.opa_batch.specs.declared.head.Sort.TheVariants as sort
use Rattle.opa_batch.specs.declared.head.HeadFault.{HeadFault}
use Rattle.opa_batch.specs.declared.head.HeadFault.TheVariants as fault

-- the cell isn't too long, is a text, and is this point
abbrev pub HasPoint : List ℕ → Point → Type 0
HasPoint bytes p = (ps : List Piece) × HasTokens bytes ps × SpellsPoint p ps

-- the phrase is an attribute's, or a relation's
abbrev pub NamesSort : Lists → Point → Sort → Type 0
NamesSort m p sort.Answer = IsAttribute m p
NamesSort m p sort.Names = IsRelation m p

-- the cell is the head of a column
abbrev pub IsHead : Lists → List ℕ → Head → Type 0
IsHead m bytes h = (h.text ≡ bytes) × ((p : Point) × HasPoint bytes p × NamesSort m p h.sort)

-- the cell is none: it hasn't the shape of a point, or its phrase names nothing
abbrev pub IsNoHead : Lists → List ℕ → HeadFault → Type 0
IsNoHead m bytes fault.Shape = (p : Point) → HasPoint bytes p → ⊥
IsNoHead m bytes fault.Name = (p : Point) × HasPoint bytes p × NamesNothing m p
IsNoHead m bytes fault.NoMemory = Unit {0}

-- each cell is the head of a column
abbrev pub AreHeads : Lists → List (List ℕ) → List Head → Type 0
AreHeads m cells heads = AllZip (IsHead m) cells heads

-- want of memory, which is never printed, has no number
abbrev pub head_fault_number : HeadFault → ℕ
head_fault_number fault.Shape = 1
head_fault_number fault.Name = 2
head_fault_number fault.NoMemory = 0

-- `column K WHAT N`
abbrev pub column_fault : ℕ → List ℕ → ℕ → List ℕ
column_fault column what n = codes "column " ++ (decimal column ++ (codes " " ++ (what ++ (codes " " ++ decimal n))))

abbrev pub refused_head : ℕ → HeadFault → List ℕ
refused_head column f = codes "refused: column " ++ (decimal column ++ (codes " command " ++ (decimal (head_fault_number f) ++ 10 ∷ [])))

-- The first cell that is no head, of those from a column on, is refused so.
abbrev pub IsFirstRefusal : Lists → ℕ → List (List ℕ) → List ℕ → Type 0
IsFirstRefusal m column [] text = ⊥
IsFirstRefusal m column (cell ∷ cells) text =
    ((f : HeadFault) × (f ≢ fault.NoMemory) × IsNoHead m cell f × (text ≡ refused_head column f))
    ⊎ ((h : Head) × IsHead m cell h × IsFirstRefusal m (column + 1) cells text)
