-- What blocks and tables say is read in at most one way, and where it is read, it has no fault.
use Rattle.std.specs.Prelude.{◌≡◌, List}
use Rattle.opa_words.specs.declared.layout.block.Block.{Block}
use Rattle.opa_model.specs.declared.lists.Lists.{Lists}
use Rattle.opa_tree.specs.declared.faults.RbFault.{RbFault}
use Rattle.opa_tree.specs.declared.rules.Inferred.{Inferred}
use Rattle.opa_tree.specs.declared.rules.Rule.{Rule}
use Rattle.opa_sentence.specs.declared.names.Names.{Names}
use Rattle.opa_decl.specs.Declarations.{IsFirstFault}
use Rattle.opa_parse.specs.declared.block.MemberBlock.{MemberBlock}
use Rattle.opa_parse.specs.declared.block.RuleBlock.{RuleBlock}
use Rattle.opa_parse.specs.Memberships.{AreMemberBlocks, AreInferences, AreRefused}
use Rattle.opa_parse.specs.Rules.{AreRuleBlocks}
use Rattle.opa_parse.specs.declared.tables.whole.TableFile.{TableFile}
use Rattle.opa_parse.specs.Tables.Whole.{AreTabled, AreAllRules, AreAllRefused}

-- declaration blocks have at most one first fault
abbrev pub OneDeclarationFault : Type 0
OneDeclarationFault = (blocks : List Block) (f g : RbFault) → IsFirstFault blocks f → IsFirstFault blocks g → f ≡ g

-- ---- what is found

-- the membership blocks among blocks are found in at most one way
abbrev pub OneMemberBlocks : Type 0
OneMemberBlocks = (m : Lists) (ns : Names) (blocks : List Block) (xs ys : List MemberBlock) → AreMemberBlocks m ns blocks xs → AreMemberBlocks m ns blocks ys → xs ≡ ys

-- so are the rules among blocks
abbrev pub OneRuleBlocks : Type 0
OneRuleBlocks = (m : Lists) (ns : Names) (blocks : List Block) (xs ys : List RuleBlock) → AreRuleBlocks m ns blocks xs → AreRuleBlocks m ns blocks ys → xs ≡ ys

-- and the rules of tables
abbrev pub OneTabling : Type 0
OneTabling = (m : Lists) (ns : Names) (tables : List TableFile) (xs ys : List RuleBlock) → AreTabled m ns tables xs → AreTabled m ns tables ys → xs ≡ ys

-- ---- inferred relations

-- blocks have at most one list of inferred relations
abbrev pub OneInferences : Type 0
OneInferences = (m : Lists) (blocks : List Block) (xs ys : List Inferred) → AreInferences m blocks xs → AreInferences m blocks ys → xs ≡ ys

-- their membership blocks have at most one first fault
abbrev pub OneMemberFault : Type 0
OneMemberFault = (m : Lists) (blocks : List Block) (f g : RbFault) → AreRefused m blocks f → AreRefused m blocks g → f ≡ g

-- where they have inferred relations, they have no such fault
abbrev pub InferencesOrFault : Type 0
InferencesOrFault = (m : Lists) (blocks : List Block) (xs : List Inferred) (f : RbFault) → AreInferences m blocks xs → AreRefused m blocks f → ⊥

-- ---- rules

-- blocks and tables have at most one list of rules
abbrev pub OneRuleList : Type 0
OneRuleList = (m : Lists) (inferences : List Inferred) (blocks : List Block) (tables : List TableFile) (rs ss : List Rule)
    → AreAllRules m inferences blocks tables rs → AreAllRules m inferences blocks tables ss → rs ≡ ss

-- their rules have at most one first fault
abbrev pub OneRuleFault : Type 0
OneRuleFault = (m : Lists) (inferences : List Inferred) (blocks : List Block) (tables : List TableFile) (f g : RbFault)
    → AreAllRefused m inferences blocks tables f → AreAllRefused m inferences blocks tables g → f ≡ g

-- where they have rules, they have no such fault
abbrev pub RulesOrFault : Type 0
RulesOrFault = (m : Lists) (inferences : List Inferred) (blocks : List Block) (tables : List TableFile) (rs : List Rule) (f : RbFault)
    → AreAllRules m inferences blocks tables rs → AreAllRefused m inferences blocks tables f → ⊥
