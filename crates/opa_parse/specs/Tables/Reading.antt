-- What is read of a table.
use Rattle.std.specs.Prelude.{◌≡◌, ℕ, List, [], ◌++◌, Some, All}
use Rattle.opa_model.specs.declared.lists.Lists.{Lists}
use Rattle.opa_tree.specs.declared.faults.RbFault.{RbFault}
use Rattle.opa_tree.specs.declared.rules.Inferred.{Inferred}
use Rattle.opa_tree.specs.declared.rules.Rule.{Rule}
use Rattle.opa_tree.specs.FirstFaults.{first_fault}
use Rattle.opa_sentence.specs.declared.names.Names.{Names}
use Rattle.opa_parse.specs.declared.block.RuleBlock.{RuleBlock}
use Rattle.opa_parse.specs.declared.rules.Taken.{Taken}
use Rattle.opa_parse.specs.Naming.{names_in}
use Rattle.opa_parse.specs.Rules.{rule_faults, rules_in}
use Rattle.opa_parse.specs.Runs.{IsTaken}
use Rattle.opa_parse.specs.declared.tables.cells.Found.{Found}
use Rattle.opa_parse.specs.Tables.Columns.{blocks_of}
use Rattle.opa_parse.specs.Tables.Records.{table_records}
use Rattle.opa_parse.specs.Tables.Tables.{IsFound}

-- the rules that the bytes of a table in this file give
pub record AreTableBlocks (m : Lists) (ns : Names) (file : ℕ) (bytes : List ℕ) (blocks : List RuleBlock) : Type 0 where
  pub found : Found
  pub is_found : IsFound m ns (table_records bytes) found
  pub blocks_are : blocks ≡ blocks_of file found

-- these rules are taken after others
abbrev pub TakesBlocks : List RuleBlock → Taken → Taken → Type 0
TakesBlocks blocks t u = (start : ℕ) (before : List RuleBlock) → IsTaken start before t → IsTaken start (before ++ blocks) u

-- the rules of a table are taken after others
abbrev pub TakesTable : Lists → Names → ℕ → List ℕ → Taken → Taken → Type 0
TakesTable m ns file bytes t u = (blocks : List RuleBlock) × AreTableBlocks m ns file bytes blocks × TakesBlocks blocks t u

-- These are the rules of a table, which has no fault.
pub record AreTableRules (m : Lists) (inferences : List Inferred) (file : ℕ) (bytes : List ℕ) (rules : List Rule) : Type 0 where
  pub blocks : List RuleBlock
  pub are_blocks : AreTableBlocks m (names_in m inferences) file bytes blocks
  pub sound : rule_faults inferences blocks ≡ []
  pub rules_are : rules ≡ rules_in blocks

-- This is the first fault of a table.
pub record IsTableRefused (m : Lists) (inferences : List Inferred) (file : ℕ) (bytes : List ℕ) (fault : RbFault) : Type 0 where
  pub blocks : List RuleBlock
  pub are_blocks : AreTableBlocks m (names_in m inferences) file bytes blocks
  pub first : first_fault (rule_faults inferences blocks) ≡ Some fault

-- each rule stands in this file
abbrev pub AreIn : ℕ → List Rule → Type 0
AreIn file rules = All (λ r. r.file ≡ file) rules
