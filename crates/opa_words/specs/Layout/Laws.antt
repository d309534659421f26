-- Laws of layout.
use Rattle.std.specs.Prelude.{◌≡◌, ℕ, List}
use Rattle.opa_words.specs.declared.layout.block.Block.{Block}
use Rattle.opa_words.specs.Layout.Blocks.{AreBlocks, lines_of}

-- blocks of a file are known by their lines
abbrev pub OneLayout : Type 0
OneLayout = (file : ℕ) (bs cs : List Block) → AreBlocks file bs → AreBlocks file cs → lines_of bs ≡ lines_of cs → bs ≡ cs
