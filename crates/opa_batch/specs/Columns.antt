-- How the heading is read: on the way to the heads of columns.
use Rattle.std.specs.Prelude.{◌≤◌, ◌+◌, ℕ, List, ◌++◌, length, drop, Result, Ok, Err}
use Rattle.std.specs.Str.{IsUtf8}
use Rattle.opa_model.specs.declared.lists.Lists.{Lists}
use Rattle.opa_words.specs.Pieces.{Piece, IsCutInto}
use Rattle.opa_text.specs.declared.pointed.Point.{Point}
use Rattle.opa_text.specs.Pointed.{SpellsPoint}
use Rattle.opa_script.specs.Commands.{NamesNothing}
use Rattle.opa_batch.specs.declared.head.Head.{Head}
use Rattle.opa_batch.specs.declared.head.Sort.{Sort}
use Rattle.opa_batch.specs.declared.head.HeadFault.{HeadFault}
use Rattle.opa_batch.specs.declared.head.HeadFault.TheVariants as fault
use Rattle.opa_batch.specs.Heads.{HasPoint, NamesSort, AreHeads, IsFirstRefusal}
use Rattle.opa_io.specs.declared.limits.TheConstants.{MOST_LINE}

-- the cell is too long or no text
abbrev pub IsNoText : List ℕ → Type 0
IsNoText bytes = (length bytes ≤ MOST_LINE) → IsUtf8 bytes → ⊥

abbrev pub IsNotCut : List ℕ → HeadFault → Type 0
IsNotCut bytes fault.Shape = (ps : List Piece) → IsCutInto bytes ps → ⊥
IsNotCut bytes fault.Name = ⊥
IsNotCut bytes fault.NoMemory = Unit {0}

-- the tokens are a point that names something of this sort, or why they aren't
abbrev pub IsSorted : Lists → List Piece → Sort → Type 0
IsSorted m ps s = (p : Point) × SpellsPoint p ps × NamesSort m p s

abbrev pub IsUnsorted : Lists → List Piece → HeadFault → Type 0
IsUnsorted m ps fault.Shape = (p : Point) → SpellsPoint p ps → ⊥
IsUnsorted m ps fault.Name = (p : Point) × SpellsPoint p ps × NamesNothing m p
IsUnsorted m ps fault.NoMemory = Unit {0}

-- the cell is such a point
abbrev pub IsPointed : Lists → List ℕ → Sort → Type 0
IsPointed m bytes s = (p : Point) × HasPoint bytes p × NamesSort m p s

-- the heads of the cells, or the first refusal
abbrev pub AreColumns : Lists → List (List ℕ) → Result (List Head) (List ℕ) → Type 0
AreColumns m cells (Ok heads) = AreHeads m cells heads
AreColumns m cells (Err text) = IsFirstRefusal m 1 cells text

-- The cells before a place are these heads.
pub record AreTaken (m : Lists) (cells : List (List ℕ)) (place : ℕ) (heads : List Head) : Type 0 where
  pub grows : (more : List Head) → AreHeads m (drop place cells) more → AreHeads m cells (heads ++ more)
  pub refuses : (text : List ℕ) → IsFirstRefusal m (place + 1) (drop place cells) text → IsFirstRefusal m 1 cells text
