-- The rules of a whole rulebase: those of rule blocks, and then those of tables.
use Rattle.std.specs.Prelude.{◌≡◌, ◌<◌, ℕ, List, [], ◌∷◌, ◌++◌, Some, All}
use Rattle.opa_model.specs.declared.lists.Lists.{Lists}
use Rattle.opa_words.specs.declared.layout.block.Block.{Block}
use Rattle.opa_tree.specs.declared.faults.RbFault.{RbFault}
use Rattle.opa_tree.specs.declared.rules.Inferred.{Inferred}
use Rattle.opa_tree.specs.declared.rules.Rule.{Rule}
use Rattle.opa_tree.specs.Accepted.{AreFiled}
use Rattle.opa_tree.specs.FirstFaults.{first_fault}
use Rattle.opa_sentence.specs.declared.names.Names.{Names}
use Rattle.opa_parse.specs.declared.block.RuleBlock.{RuleBlock}
use Rattle.opa_parse.specs.declared.rules.Taken.{Taken}
use Rattle.opa_parse.specs.Naming.{names_in}
use Rattle.opa_parse.specs.Rules.{AreRuleBlocks, rule_faults, rules_in}
use Rattle.opa_parse.specs.declared.tables.whole.TableFile.{TableFile}
use Rattle.opa_parse.specs.Tables.Reading.{AreTableBlocks, TakesBlocks}

-- the rules that tables give, one table after another
abbrev pub AreTabled : Lists → Names → List TableFile → List RuleBlock → Type 0
AreTabled m ns [] tabled = tabled ≡ []
AreTabled m ns (t ∷ tables) tabled = (own : List RuleBlock) × (more : List RuleBlock) × AreTableBlocks m ns t.file t.bytes own × AreTabled m ns tables more × (tabled ≡ own ++ more)

-- the rules of tables are taken after others
abbrev pub TakesTables : Lists → Names → List TableFile → Taken → Taken → Type 0
TakesTables m ns tables t u = (tabled : List RuleBlock) × AreTabled m ns tables tabled × TakesBlocks tabled t u

-- These are the rules of blocks and tables, which have no fault.
pub record AreAllRules (m : Lists) (inferences : List Inferred) (blocks : List Block) (tables : List TableFile) (rules : List Rule) : Type 0 where
  pub found : List RuleBlock
  pub are_found : AreRuleBlocks m (names_in m inferences) blocks found
  pub tabled : List RuleBlock
  pub are_tabled : AreTabled m (names_in m inferences) tables tabled
  pub sound : rule_faults inferences (found ++ tabled) ≡ []
  pub rules_are : rules ≡ rules_in (found ++ tabled)

-- This is the first fault of the rules of blocks and tables.
pub record AreAllRefused (m : Lists) (inferences : List Inferred) (blocks : List Block) (tables : List TableFile) (fault : RbFault) : Type 0 where
  pub found : List RuleBlock
  pub are_found : AreRuleBlocks m (names_in m inferences) blocks found
  pub tabled : List RuleBlock
  pub are_tabled : AreTabled m (names_in m inferences) tables tabled
  pub first : first_fault (rule_faults inferences (found ++ tabled)) ≡ Some fault

-- each rule stands in one of so many files, where the blocks and the tables do
abbrev pub AllAreFiledAs : List Block → List TableFile → List Rule → Type 0
AllAreFiledAs blocks tables rules = (files : ℕ) → All (λ b. b.file < files) blocks → All (λ t. t.file < files) tables → AreFiled files rules
