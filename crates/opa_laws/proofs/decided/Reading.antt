-- What is read of blocks and tables is one thing.
use Rattle.std.proofs.Common.{◌≡◌, ◌∙◌, List, [], ◌∷◌, ◌++◌, Some, None, sym, ap, ap₂}
use Rattle.opa_model.specs.declared.lists.Lists.{Lists}
use Rattle.opa_words.specs.declared.layout.block.Block.{Block}
use Rattle.opa_tree.specs.declared.faults.RbFault.{RbFault}
use Rattle.opa_tree.specs.declared.rules.Inferred.{Inferred}
use Rattle.opa_tree.specs.FirstFaults.{first_fault}
use Rattle.opa_parse.specs.declared.block.RuleBlock.{RuleBlock}
use Rattle.opa_parse.specs.Memberships.{inferred_in, member_faults, names_alone}
use Rattle.opa_parse.specs.Naming.{names_in}
use Rattle.opa_parse.specs.Rules.{AreRuleBlocks, rule_faults, rules_in}
use Rattle.opa_parse.specs.declared.tables.whole.TableFile.{TableFile}
use Rattle.opa_parse.specs.Tables.Whole.{AreTabled}
use Rattle.opa_parse.proofs.tables.LawsHold.{one_table_holds}
use Rattle.opa_laws.specs.Decided.Reading.{OneTabling, OneInferences, OneMemberFault, InferencesOrFault, OneRuleList, OneRuleFault, RulesOrFault}
use Rattle.opa_laws.proofs.decided.Blocks.{one_member_blocks_hold, one_rule_blocks_hold}

-- no faults have no first, and faults have one first
no_first : (fs gs : List RbFault) (f : RbFault) → fs ≡ gs → fs ≡ [] → first_fault gs ≡ Some f → ⊥
no_first fs gs f same none first = let e : None ≡ Some f = sym (ap first_fault (sym same ∙ none)) ∙ first in cc e

same_first : (fs gs : List RbFault) (f g : RbFault) → fs ≡ gs → first_fault fs ≡ Some f → first_fault gs ≡ Some g → f ≡ g
same_first fs gs f g same p q = let e : Some f ≡ Some g = sym p ∙ ap first_fault same ∙ q in cc e

-- ---- inferred relations

pub one_inferences_hold : OneInferences
one_inferences_hold m blocks xs ys h k = h.inferences_are ∙ ap inferred_in (one_member_blocks_hold m (names_alone m) blocks h.found k.found h.are_found k.are_found) ∙ sym k.inferences_are

pub one_member_fault_holds : OneMemberFault
one_member_fault_holds m blocks f g h k =
    same_first (member_faults m h.found) (member_faults m k.found) f g (ap (member_faults m) (one_member_blocks_hold m (names_alone m) blocks h.found k.found h.are_found k.are_found)) h.first k.first

pub inferences_or_fault_hold : InferencesOrFault
inferences_or_fault_hold m blocks xs f h k =
    no_first (member_faults m h.found) (member_faults m k.found) f (ap (member_faults m) (one_member_blocks_hold m (names_alone m) blocks h.found k.found h.are_found k.are_found)) h.sound k.first

-- ---- rules

pub one_tabling_holds : OneTabling
one_tabling_holds m ns [] xs ys h k = h ∙ sym k
one_tabling_holds m ns (t ∷ tables) xs ys h k =
    h.4 ∙ ap₂ (λ (own more : List RuleBlock). own ++ more) (one_table_holds m ns t.file t.bytes h.0 k.0 h.2 k.2) (one_tabling_holds m ns tables h.1 k.1 h.3 k.3) ∙ sym k.4

module _ (m : Lists) (inferences : List Inferred) (blocks : List Block) (tables : List TableFile) (found others tabled also : List RuleBlock) where
  same_found : AreRuleBlocks m (names_in m inferences) blocks found → AreRuleBlocks m (names_in m inferences) blocks others
      → AreTabled m (names_in m inferences) tables tabled → AreTabled m (names_in m inferences) tables also
      → found ++ tabled ≡ others ++ also
  same_found p q r s =
      ap₂ (λ (xs ys : List RuleBlock). xs ++ ys) (one_rule_blocks_hold m (names_in m inferences) blocks found others p q) (one_tabling_holds m (names_in m inferences) tables tabled also r s)

pub one_rule_list_holds : OneRuleList
one_rule_list_holds m inferences blocks tables rs ss h k =
    h.rules_are ∙ ap rules_in (same_found m inferences blocks tables h.found k.found h.tabled k.tabled h.are_found k.are_found h.are_tabled k.are_tabled) ∙ sym k.rules_are

pub one_rule_fault_holds : OneRuleFault
one_rule_fault_holds m inferences blocks tables f g h k =
    same_first (rule_faults inferences (h.found ++ h.tabled)) (rule_faults inferences (k.found ++ k.tabled)) f g
    (ap (rule_faults inferences) (same_found m inferences blocks tables h.found k.found h.tabled k.tabled h.are_found k.are_found h.are_tabled k.are_tabled)) h.first k.first

pub rules_or_fault_hold : RulesOrFault
rules_or_fault_hold m inferences blocks tables rs f h k =
    no_first (rule_faults inferences (h.found ++ h.tabled)) (rule_faults inferences (k.found ++ k.tabled)) f
    (ap (rule_faults inferences) (same_found m inferences blocks tables h.found k.found h.tabled k.tabled h.are_found k.are_found h.are_tabled k.are_tabled)) h.sound k.first
