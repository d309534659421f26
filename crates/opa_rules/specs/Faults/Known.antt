-- The phrases that rules can use.
use Rattle.std.specs.Prelude.{ℕ, List, [], ◌++◌, filter}
use Rattle.opa_model.specs.declared.lists.Lists.{Lists}
use Rattle.opa_model.specs.Lookups.{relation_phrases}
use Rattle.opa_words.specs.declared.layout.block.Block.{Block}
use Rattle.opa_verbs.specs.Phrasing.{operand_phrases}
use Rattle.opa_tree.specs.declared.faults.RbFault.{RbFault}
use Rattle.opa_tree.specs.declared.rules.Inferred.{Inferred}
use Rattle.opa_decl.specs.Declarations.{Declares, IsFirstFault}
use Rattle.opa_parse.specs.Naming.{inferred_phrases}
use Rattle.opa_parse.specs.Memberships.{AreInferences, AreRefused as IsMemberFault}
use Rattle.opa_rulebase.specs.declared.files.source.SourceFile.{SourceFile}
use Rattle.opa_rulebase.specs.Files.Layouts.{faults_from, Begins}
use Rattle.opa_rulebase.specs.Loading.{AreBlocks}
use Rattle.opa_rules.specs.Faults.Blocks.{declares}

-- the phrases of attributes, what denies them, and the phrases of lists, those of membership blocks last
abbrev pub known_phrases : Lists → List Inferred → List (List ℕ)
known_phrases m inferences = operand_phrases m ++ (relation_phrases m ++ inferred_phrases inferences)

-- The phrases that blocks make known: none where a declaration has a fault, and those of lists alone that are declared where a membership block has one.
pub data AreKnownIn (blocks : List Block) : List (List ℕ) → Type 0 where
  undeclared : (fault : RbFault) → IsFirstFault blocks fault → AreKnownIn blocks []
  declared : (m : Lists) (fault : RbFault) → Declares blocks m → IsMemberFault m blocks fault → AreKnownIn blocks (known_phrases m [])
  inferred : (m : Lists) (inferences : List Inferred) → Declares blocks m → AreInferences m blocks inferences → AreKnownIn blocks (known_phrases m inferences)

-- The phrases that the files make known, whatever is wrong with rules, goals and screens.
pub data AreKnown (files : List SourceFile) : List (List ℕ) → Type 0 where
  unlaid : (fault : RbFault) → Begins fault (faults_from 0 files) → AreKnown files []
  laid : (blocks : List Block) (phrases : List (List ℕ)) → AreBlocks files blocks → AreKnownIn (filter declares blocks) phrases → AreKnown files phrases
