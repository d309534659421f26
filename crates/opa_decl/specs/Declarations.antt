-- What blocks declare: the model, or the first fault.
use Rattle.std.specs.Prelude.{ℕ, ◌≡◌, List, [], ◌∷◌, ◌++◌, flat_map, Option, Some, None}
use Rattle.opa_words.specs.declared.layout.block.Block.{Block}
use Rattle.opa_model.specs.declared.lists.Lists.{Lists}
use Rattle.opa_tree.specs.declared.faults.RbFault.{RbFault}
use Rattle.opa_tree.specs.declared.faults.RbKind.TheVariants.{Syntax}
use Rattle.opa_tree.specs.FirstFaults.{IsFirst}
use Rattle.opa_decl.specs.declared.cut.CutBlock.{CutBlock}
use Rattle.opa_decl.specs.declared.cut.CutLine.{CutLine}
use Rattle.opa_decl.specs.declared.items.Item.{Item}
use Rattle.opa_decl.specs.declared.items.Place.{Place}
use Rattle.opa_decl.specs.Cutting.{AreCut}
use Rattle.opa_decl.specs.Faults.{fault_at, faults_by}
use Rattle.opa_decl.specs.Lists.{lists_of}
use Rattle.opa_decl.specs.Names.{tables_of}
use Rattle.opa_decl.specs.Numbering.{numbered, no_counts}
use Rattle.opa_decl.specs.Spelling.{spelled, place_in}

-- the first line of a block
abbrev pub first_place : ℕ → List CutLine → Place
first_place file [] = record { file = file; line = 0 }
first_place file (first ∷ deeper) = place_in file first

abbrev pub items_or_none : Option (List Item) → List Item
items_or_none None = []
items_or_none (Some items) = items

-- what a block says, where it is spelled
abbrev pub items_in : CutBlock → List Item
items_in block = items_or_none (spelled block)

abbrev pub unspelled : Place → Option (List Item) → List RbFault
unspelled at None = fault_at Syntax at ∷ []
unspelled at (Some items) = []

-- the fault of a block that is not spelled
abbrev pub syntax_faults : CutBlock → List RbFault
syntax_faults block = unspelled (first_place block.file block.lines) (spelled block)

-- all that declaration blocks say, block by block and line by line
abbrev pub items_of : List CutBlock → List Item
items_of blocks = flat_map items_in blocks

-- the model of these items, and their faults
unfoldable pub model_of : List Item → Lists
model_of items = lists_of (tables_of items) items (numbered no_counts items)

unfoldable pub item_faults : List Item → List RbFault
item_faults items = faults_by (tables_of items) items (numbered no_counts items)

-- all faults of declaration blocks
abbrev pub faults_of : List CutBlock → List RbFault
faults_of blocks = flat_map syntax_faults blocks ++ item_faults (items_of blocks)

-- The blocks have no fault, and they declare the model.
pub record Declares (blocks : List Block) (model : Lists) : Type 0 where
  pub read : List CutBlock
  pub cut : AreCut blocks read
  pub faultless : faults_of read ≡ []
  pub model_is : model ≡ model_of (items_of read)

-- It is the first fault of the blocks: by kind, then by file, then by line.
pub record IsFirstFault (blocks : List Block) (fault : RbFault) : Type 0 where
  pub read : List CutBlock
  pub cut : AreCut blocks read
  pub first : IsFirst (faults_of read) (Some fault)
