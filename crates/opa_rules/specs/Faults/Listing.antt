-- The errors of a rulebase that can be found.
use Rattle.std.specs.Prelude.{ℕ, ◌≡◌, ◌+◌, ◌++◌, Bool, true, false, not, nat_le, if◌then◌else◌, List, [], ◌∷◌, codes, length, find, Option, Some, None}
use Rattle.std.specs.List.{list_all}
use Rattle.std.specs.Fmt.{decimal}
use Rattle.opa_model.specs.declared.lists.Lists.{Lists}
use Rattle.opa_words.specs.declared.layout.block.Block.{Block}
use Rattle.opa_tree.specs.declared.faults.RbFault.{RbFault}
use Rattle.opa_tree.specs.declared.rules.Inferred.{Inferred}
use Rattle.opa_tree.specs.declared.rules.Rule.{Rule}
use Rattle.opa_tree.specs.Accepted.{AreAccepted}
use Rattle.opa_decl.specs.Declarations.{Declares, IsFirstFault}
use Rattle.opa_parse.specs.Memberships.{AreInferences, AreRefused as IsMemberFault}
use Rattle.opa_parse.specs.declared.tables.whole.TableFile.{TableFile}
use Rattle.opa_parse.specs.Tables.Whole.{AreAllRules, AreAllRefused}
use Rattle.opa_rulebase.specs.Checking.Refused.{IsRefused as IsCheckFault}
use Rattle.opa_rulebase.specs.declared.fault.Refusal.{Refusal}
use Rattle.opa_rulebase.specs.declared.fault.Unaccepted.{Unaccepted}
use Rattle.opa_rulebase.specs.declared.fault.Unaccepted.TheVariants as unaccepted
use Rattle.opa_rulebase.specs.declared.files.source.SourceFile.{SourceFile}
use Rattle.opa_rulebase.specs.Files.Layouts.{faults_from, Begins}
use Rattle.opa_rulebase.specs.Loading.{phrases_of, table_files, AreBlocks, IsRefused}
use Rattle.opa_rules.specs.Faults.Blocks.{has_line, declares, without}
use Rattle.opa_rules.specs.declared.faults.marks.Told.{Told}
use Rattle.opa_rules.specs.Faults.Known.{AreKnown}
use Rattle.opa_rules.specs.Faults.Printed.{error_in}
use Rattle.opa_rules.specs.Faults.Marks.{plain}
use Rattle.opa_rules.specs.Faults.Told.{IsToldIn}

-- the blocks beside tables have no error
pub record AreFree (tables : List TableFile) (blocks : List Block) : Type 0 where
  pub model : Lists
  pub inferences : List Inferred
  pub rules : List Rule
  pub declares_it : Declares blocks model
  pub infers : AreInferences model blocks inferences
  pub are_rules : AreAllRules model inferences blocks tables rules
  pub accepted : AreAccepted model rules

-- the first error of the blocks, with the phrases of its circle: the first phase of loading that has one decides
pub data IsFirst (tables : List TableFile) (blocks : List Block) (w : Refusal) : Type 0 where
  at_declarations : IsFirstFault blocks w.fault → w.circle ≡ [] → IsFirst tables blocks w
  at_members : (m : Lists) → Declares blocks m → IsMemberFault m blocks w.fault → w.circle ≡ [] → IsFirst tables blocks w
  at_rules : (m : Lists) (inferences : List Inferred) → Declares blocks m → AreInferences m blocks inferences → AreAllRefused m inferences blocks tables w.fault
      → w.circle ≡ [] → IsFirst tables blocks w
  at_check : (m : Lists) (inferences : List Inferred) (rules : List Rule) → Declares blocks m → AreInferences m blocks inferences → AreAllRules m inferences blocks tables rules
      → IsCheckFault m rules w.fault → w.circle ≡ phrases_of m w.fault.cycle → IsFirst tables blocks w

-- the same, if memory was found for it
abbrev pub HasFirst : List TableFile → List Block → Unaccepted → Type 0
HasFirst tables blocks (unaccepted.Refused w) = IsFirst tables blocks w
HasFirst tables blocks unaccepted.NoMemory = Unit {0}

-- a block is there, and others don't speak of what it declares
abbrev pub leaves : Option Block → Bool
leaves None = false
leaves (Some b) = not (declares b)

-- the block in which an error is can be left out
abbrev pub goes_on : List Block → Refusal → Bool
goes_on blocks w = leaves (find (has_line w.fault.file w.fault.line) blocks)

-- no file has more than 1 MiB
abbrev pub are_short : List SourceFile → Bool
are_short files = list_all (λ f. nat_le (length f.text) 1048576) files

-- how many errors are listed at most behind the first: fewer where a file is long, since all is read anew for each
abbrev pub most_listed : List SourceFile → ℕ
most_listed files = if are_short files then 99 else 2

-- how many were listed, where that is why the list ends
abbrev pub most_text : List SourceFile → List ℕ
most_text files = decimal (most_listed files + 1) ++ (codes " errors are listed: there may be more" ++ 10 ∷ [])

-- The text of at most so many errors of the blocks, where these phrases are known: the first one, and then those of what is left
-- without its block. Behind an error in a declaration none is looked for, since it might be one of what speaks of the declared.
-- Where the list ends only because that many are listed, a last line says so.
pub data AreListed (files : List SourceFile) (phrases : List (List ℕ)) : ℕ → List Block → List ℕ → Type 0 where
  enough : (blocks : List Block) → AreListed files phrases 0 blocks (most_text files)
  free : (most : ℕ) (blocks : List Block) → AreFree (table_files 0 files) blocks → AreListed files phrases (most + 1) blocks []
  last : (most : ℕ) (blocks : List Block) (w : Refusal) (told : Told) → IsFirst (table_files 0 files) blocks w → IsToldIn phrases blocks w.fault told → goes_on blocks w ≡ false
      → AreListed files phrases (most + 1) blocks (error_in files blocks w told)
  left : (most : ℕ) (blocks : List Block) (w : Refusal) (told : Told) (more : List ℕ) → IsFirst (table_files 0 files) blocks w → IsToldIn phrases blocks w.fault told → goes_on blocks w ≡ true
      → AreListed files phrases most (without w.fault.file w.fault.line blocks) more → AreListed files phrases (most + 1) blocks (error_in files blocks w told ++ more)

-- what is listed behind an error, at most so many
pub record AreLater (files : List SourceFile) (phrases : List (List ℕ)) (most : ℕ) (blocks : List Block) (w : Refusal) (more : List ℕ) : Type 0 where
  pub last : goes_on blocks w ≡ false → more ≡ []
  pub left : goes_on blocks w ≡ true → AreListed files phrases most (without w.fault.file w.fault.line blocks) more

-- The text of the errors of files: the first one as it is found in loading, and then later ones.
pub data AreErrors (files : List SourceFile) : List ℕ → Type 0 where
  of_layout : (w : Refusal) (fault : RbFault) → Begins fault (faults_from 0 files) → IsRefused files w.fault w.circle → AreErrors files (error_in files [] w (plain w.fault.line w.fault.kind None))
  of_blocks : (blocks : List Block) (phrases : List (List ℕ)) (w : Refusal) (told : Told) (more : List ℕ) → AreBlocks files blocks → AreKnown files phrases → IsRefused files w.fault w.circle
      → IsToldIn phrases blocks w.fault told → AreLater files phrases (most_listed files) blocks w more → AreErrors files (error_in files blocks w told ++ more)
