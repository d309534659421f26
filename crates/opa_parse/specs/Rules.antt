-- The rules of blocks.
use Rattle.std.specs.Prelude.{◌≡◌, ◌≢◌, ℕ, Bool, List, [], ◌∷◌, ◌++◌, map, Option, Some, None}
use Rattle.opa_model.specs.declared.ids.AttrId.{AttrId}
use Rattle.opa_model.specs.declared.lists.Lists.{Lists}
use Rattle.opa_words.specs.declared.layout.block.Block.{Block}
use Rattle.opa_words.specs.declared.layout.block.BlockLine.{BlockLine}
use Rattle.opa_tree.specs.declared.expr.Expr.{Expr}
use Rattle.opa_tree.specs.declared.faults.RbFault.{RbFault}
use Rattle.opa_tree.specs.declared.rules.Inferred.{Inferred}
use Rattle.opa_tree.specs.declared.rules.Rule.{Rule}
use Rattle.opa_tree.specs.FirstFaults.{first_fault}
use Rattle.opa_sentence.specs.declared.names.Names.{Names}
use Rattle.opa_sentence.specs.Measures.{nodes, total}
use Rattle.opa_parse.specs.declared.block.BlockSort.{BlockSort}
use Rattle.opa_parse.specs.declared.block.BlockSort.TheVariants as block_sort
use Rattle.opa_parse.specs.declared.block.RuleBlock.{RuleBlock}
use Rattle.opa_parse.specs.declared.block.Statement.{Statement}
use Rattle.opa_parse.specs.Blocks.{IsStatement}
use Rattle.opa_parse.specs.Naming.{names_in}
use Rattle.opa_parse.specs.Openings.{IsSort}
use Rattle.opa_parse.specs.RuleFaults.{faults_from}

-- the number of the first line
abbrev pub first_number : List BlockLine → ℕ
first_number [] = 0
first_number (l ∷ ls) = l.line

-- the block is a rule, which says this
pub record IsRuleBlock (m : Lists) (ns : Names) (b : Block) (r : RuleBlock) : Type 0 where
  pub sort : IsSort b.lines block_sort.Rule
  pub file_is : r.file ≡ b.file
  pub line_is : r.line ≡ first_number b.lines
  pub says : IsStatement m ns b.lines r.statement

-- the block isn't of this sort
abbrev pub IsPassed : BlockSort → Block → Type 0
IsPassed s b = (t : BlockSort) × IsSort b.lines t × (t ≢ s)

-- the rules among blocks, in their order
pub data AreRuleBlocks (m : Lists) (ns : Names) : List Block → List RuleBlock → Type 0 where
  none : AreRuleBlocks m ns [] []
  passed : {b : Block} {bs : List Block} {rs : List RuleBlock} → IsPassed block_sort.Rule b → AreRuleBlocks m ns bs rs → AreRuleBlocks m ns (b ∷ bs) rs
  rule : {b : Block} {r : RuleBlock} {bs : List Block} {rs : List RuleBlock} → IsRuleBlock m ns b r → AreRuleBlocks m ns bs rs → AreRuleBlocks m ns (b ∷ bs) (r ∷ rs)

-- ---- what is read

abbrev pub listed_rule : Option Rule → List Rule
listed_rule None = []
listed_rule (Some x) = x ∷ []

abbrev pub rule_from : ℕ → ℕ → Option AttrId → Option Expr → Bool → List Rule
rule_from file line None e by_if = []
rule_from file line (Some a) None by_if = []
rule_from file line (Some a) (Some e) by_if = record { attr = a; expr = e; file = file; line = line; by_if = by_if } ∷ []

abbrev pub rule_by : ℕ → ℕ → Option Statement → List Rule
rule_by file line None = []
rule_by file line (Some s) = rule_from file line s.attr s.said.reading.tree s.by_if

-- the rule of a block: one, where it is spelled, what it concludes is declared, and its tree is named and within its numbers
abbrev pub rule_in : RuleBlock → List Rule
rule_in b = rule_by b.file b.line b.statement

abbrev pub rules_in : List RuleBlock → List Rule
rules_in [] = []
rules_in (b ∷ bs) = rule_in b ++ rules_in bs

-- the nodes of membership blocks as they are written
abbrev pub inferred_nodes : List Inferred → ℕ
inferred_nodes inferences = total (map (λ i. nodes i.expr) inferences)

-- the faults of rules, where these membership blocks stand before
abbrev pub rule_faults : List Inferred → List RuleBlock → List RbFault
rule_faults inferences found = faults_from 0 (inferred_nodes inferences) found

-- These are the rules of blocks, which have no fault.
pub record AreRules (m : Lists) (inferences : List Inferred) (blocks : List Block) (rules : List Rule) : Type 0 where
  pub found : List RuleBlock
  pub are_found : AreRuleBlocks m (names_in m inferences) blocks found
  pub sound : rule_faults inferences found ≡ []
  pub rules_are : rules ≡ rules_in found

-- This is the first fault of the rules of blocks.
pub record AreRefused (m : Lists) (inferences : List Inferred) (blocks : List Block) (fault : RbFault) : Type 0 where
  pub found : List RuleBlock
  pub are_found : AreRuleBlocks m (names_in m inferences) blocks found
  pub first : first_fault (rule_faults inferences found) ≡ Some fault
