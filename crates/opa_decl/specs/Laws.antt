-- What holds of all readings of blocks.
use Rattle.std.specs.Prelude.{◌≡◌, List}
use Rattle.opa_words.specs.declared.layout.block.Block.{Block}
use Rattle.opa_model.specs.declared.lists.Lists.{Lists}
use Rattle.opa_tree.specs.declared.faults.RbFault.{RbFault}
use Rattle.opa_decl.specs.declared.cut.CutBlock.{CutBlock}
use Rattle.opa_decl.specs.Cutting.{AreCut}
use Rattle.opa_decl.specs.Declarations.{Declares, IsFirstFault}

-- blocks are cut into tokens in one way
abbrev pub OneCutting : Type 0
OneCutting = (blocks : List Block) (a b : List CutBlock) → AreCut blocks a → AreCut blocks b → a ≡ b

-- blocks declare one model at most
abbrev pub OneModel : Type 0
OneModel = (blocks : List Block) (m n : Lists) → Declares blocks m → Declares blocks n → m ≡ n

-- blocks that declare a model have no fault
abbrev pub ModelOrFault : Type 0
ModelOrFault = (blocks : List Block) (m : Lists) (fault : RbFault) → Declares blocks m → IsFirstFault blocks fault → ⊥
