-- The blocks of the rule files among files.
use Rattle.std.specs.Prelude.{ℕ, ◌≡◌, ◌<◌, ◌+◌, ◌^◌, length, List, [], ◌∷◌, ◌++◌, flat_map, true, false, if◌then◌else◌}
use Rattle.opa_words.specs.declared.layout.block.Block.{Block}
use Rattle.opa_words.specs.declared.layout.block.BlockLine.{BlockLine}
use Rattle.opa_words.specs.declared.layout.fault.LayoutFault.{LayoutFault}
use Rattle.opa_words.specs.declared.layout.fault.LayoutFault.TheVariants as layout
use Rattle.opa_words.specs.Layout.Blocks.{AreBlocks, lines_of, block_lines}
use Rattle.opa_words.specs.Layout.Faults.{layout_faults}
use Rattle.opa_tree.specs.declared.faults.RbFault.{RbFault}
use Rattle.opa_tree.specs.declared.faults.RbKind.TheVariants.{Syntax, Limit}
use Rattle.opa_rulebase.specs.declared.files.source.SourceFile.{SourceFile}
use Rattle.opa_rulebase.specs.Files.Files.{fault_at}

-- The blocks of the file that has this place; a table has none.
pub record AreBlocksOf (n : ℕ) (f : SourceFile) (bs : List Block) : Type 0 where
  pub of_table : f.is_table ≡ true → bs ≡ []
  pub of_rules : f.is_table ≡ false → AreBlocks n bs × (lines_of bs ≡ block_lines f.text)

-- the blocks of files in order, of which the first has this place
pub data AreLaid : ℕ → List SourceFile → List Block → Type 0 where
  none : {n : ℕ} → AreLaid n [] []
  file : {n : ℕ} {f : SourceFile} {fs : List SourceFile} {bs more : List Block} → AreBlocksOf n f bs → AreLaid (n + 1) fs more → AreLaid n (f ∷ fs) (bs ++ more)

abbrev pub IsShort : BlockLine → Type 0
IsShort line = length line.text < 2 ^ 32

-- a line that is too long or too deep, or one that breaks the rules of indentation
abbrev pub told : ℕ → LayoutFault → List RbFault
told n (layout.Limit line) = fault_at n line Limit ∷ []
told n (layout.Indent line) = fault_at n line Syntax ∷ []
told n layout.NoMemory = []

abbrev pub faults_in : ℕ → SourceFile → List RbFault
faults_in n f = if f.is_table then [] else flat_map (told n) (layout_faults f.text)

-- the faults of layout, file by file and line by line
abbrev pub faults_from : ℕ → List SourceFile → List RbFault
faults_from n [] = []
faults_from n (f ∷ fs) = faults_in n f ++ faults_from (n + 1) fs

abbrev pub Begins : RbFault → List RbFault → Type 0
Begins fault [] = ⊥
Begins fault (f ∷ fs) = fault ≡ f
