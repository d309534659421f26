-- The first phase that has a fault decides.
use Rattle.std.proofs.Common.{◌≡◌, ◌∙◌, ℕ, List, [], ◌∷◌, refl, sym, ap₂, subst}
use Rattle.opa_model.specs.declared.lists.Lists.{Lists}
use Rattle.opa_words.specs.declared.layout.block.Block.{Block}
use Rattle.opa_tree.specs.declared.faults.RbFault.{RbFault}
use Rattle.opa_tree.specs.declared.rulebase.Rulebase.{Rulebase}
use Rattle.opa_tree.specs.declared.rules.Inferred.{Inferred}
use Rattle.opa_tree.specs.declared.rules.Rule.{Rule}
use Rattle.opa_rulebase.specs.declared.files.source.SourceFile.{SourceFile}
use Rattle.opa_rulebase.specs.Files.Layouts.{faults_from, Begins}
use Rattle.opa_decl.specs.Declarations.{Declares, IsFirstFault}
use Rattle.opa_decl.proofs.OneReading.{one_model_holds, model_or_fault_holds}
use Rattle.opa_parse.specs.Memberships.{AreInferences, AreRefused as IsMemberFault}
use Rattle.opa_parse.specs.Tables.Whole.{AreAllRules, AreAllRefused}
use Rattle.opa_rulebase.specs.Checking.Refused.{IsRefused as IsCheckFault}
use Rattle.opa_rulebase.specs.Loading as l
use Rattle.opa_rulebase.specs.Loading.{AreBlocks, IsDeclared, AreInferred, IsAccepted, IsRefused, table_files, phrases_of}
use Rattle.opa_laws.specs.Decided.Opening.{OneRefusal, AcceptedOrRefused}
use Rattle.opa_laws.proofs.decided.Checked.{one_check_fault_holds, rulebases_are_not_refused_hold}
use Rattle.opa_laws.proofs.decided.Declared.{one_declaration_fault_holds}
use Rattle.opa_laws.proofs.decided.Laid.{one_laying_holds}
use Rattle.opa_laws.proofs.decided.Reading.{one_inferences_hold, one_member_fault_holds, inferences_or_fault_hold, one_rule_list_holds, one_rule_fault_holds, rules_or_fault_hold}

one_beginning : (fs : List RbFault) (f g : RbFault) → Begins f fs → Begins g fs → f ≡ g
one_beginning [] f g h k = absurd h
one_beginning (x ∷ fs) f g h k = h ∙ sym k

module _ (files : List SourceFile) where
  -- ---- what the phases find is one thing

  same_blocks : (bs cs : List Block) → AreBlocks files bs → AreBlocks files cs → bs ≡ cs
  same_blocks bs cs h k = one_laying_holds 0 files bs cs h.laid k.laid

  pub same_model : (bs cs : List Block) (m n : Lists) → IsDeclared files bs m → IsDeclared files cs n → m ≡ n
  same_model bs cs m n h k = one_model_holds cs m n (subst (λ x. Declares x m) (same_blocks bs cs h.blocks_are k.blocks_are) h.declares) k.declares

  same_inferences : (bs cs : List Block) (m n : Lists) (xs ys : List Inferred) → AreInferred files bs m xs → AreInferred files cs n ys → xs ≡ ys
  same_inferences bs cs m n xs ys h k =
      one_inferences_hold n cs xs ys
      (subst (λ x. AreInferences x cs xs) (same_model bs cs m n h.declared k.declared)
      (subst (λ x. AreInferences m x xs) (same_blocks bs cs h.declared.blocks_are k.declared.blocks_are) h.inferences_are)) k.inferences_are

  abbrev pub AreRead : List Block → Lists → List Inferred → List Rule → Type 0
  AreRead bs m xs rs = AreAllRules m xs bs (table_files 0 files) rs

  abbrev AreUnread : List Block → Lists → List Inferred → RbFault → Type 0
  AreUnread bs m xs f = AreAllRefused m xs bs (table_files 0 files) f

  -- what holds at what one reading found holds at what another found
  carried : (P : List Block → Lists → List Inferred → Type 0) (bs cs : List Block) (m n : Lists) (xs ys : List Inferred) → AreInferred files bs m xs → AreInferred files cs n ys → P bs m xs → P cs n ys
  carried P bs cs m n xs ys h k p =
      subst (P cs n) (same_inferences bs cs m n xs ys h k)
      (subst (λ x. P cs x xs) (same_model bs cs m n h.declared k.declared) (subst (λ x. P x m xs) (same_blocks bs cs h.declared.blocks_are k.declared.blocks_are) p))

  pub same_rules : (bs cs : List Block) (m n : Lists) (xs ys : List Inferred) (rs ss : List Rule)
      → AreInferred files bs m xs → AreInferred files cs n ys → AreRead bs m xs rs → AreRead cs n ys ss → rs ≡ ss
  same_rules bs cs m n xs ys rs ss h k p q = one_rule_list_holds n ys cs (table_files 0 files) rs ss (carried (λ x y z. AreRead x y z rs) bs cs m n xs ys h k p) q

  -- ---- a phase that has a fault is the last

  not_laid : (bs : List Block) (f : RbFault) → Begins f (faults_from 0 files) → AreBlocks files bs → ⊥
  not_laid bs f h k = subst (Begins f) k.sound h

  not_declared : (bs cs : List Block) (m : Lists) (f : RbFault) → AreBlocks files bs → IsFirstFault bs f → IsDeclared files cs m → ⊥
  not_declared bs cs m f h first k = model_or_fault_holds cs m f k.declares (subst (λ x. IsFirstFault x f) (same_blocks bs cs h k.blocks_are) first)

  same_member_fault : (bs cs : List Block) (m n : Lists) (f : RbFault) → IsDeclared files bs m → IsDeclared files cs n → IsMemberFault m bs f → IsMemberFault n cs f
  same_member_fault bs cs m n f h k p = subst (λ x. IsMemberFault x cs f) (same_model bs cs m n h k) (subst (λ x. IsMemberFault m x f) (same_blocks bs cs h.blocks_are k.blocks_are) p)

  not_inferred : (bs cs : List Block) (m n : Lists) (ys : List Inferred) (f : RbFault) → IsDeclared files bs m → IsMemberFault m bs f → AreInferred files cs n ys → ⊥
  not_inferred bs cs m n ys f h p k = inferences_or_fault_hold n cs ys f k.inferences_are (same_member_fault bs cs m n f h k.declared p)

  not_read : (bs cs : List Block) (m n : Lists) (xs ys : List Inferred) (ss : List Rule) (f : RbFault)
      → AreInferred files bs m xs → AreUnread bs m xs f → AreInferred files cs n ys → AreRead cs n ys ss → ⊥
  not_read bs cs m n xs ys ss f h p k q = rules_or_fault_hold n ys cs (table_files 0 files) ss f q (carried (λ x y z. AreUnread x y z f) bs cs m n xs ys h k p)

  -- ---- one refusal

  abbrev Only : RbFault → List (List ℕ) → Type 0
  Only f circle = (g : RbFault) (other : List (List ℕ)) → IsRefused files g other → (f ≡ g) × (circle ≡ other)

  laid_first : (f : RbFault) → Begins f (faults_from 0 files) → Only f []
  laid_first f h g other (l.IsRefused.at_layout k) = (one_beginning (faults_from 0 files) f g h k, refl)
  laid_first f h g other (l.IsRefused.at_declarations cs are k) = absurd (not_laid cs f h are)
  laid_first f h g other (l.IsRefused.at_members cs n are k) = absurd (not_laid cs f h are.blocks_are)
  laid_first f h g other (l.IsRefused.at_rules cs n ys are k) = absurd (not_laid cs f h are.declared.blocks_are)
  laid_first f h g other (l.IsRefused.at_check cs n ys ss are all k) = absurd (not_laid cs f h are.declared.blocks_are)

  declared_first : (f : RbFault) (bs : List Block) → AreBlocks files bs → IsFirstFault bs f → Only f []
  declared_first f bs is h g other (l.IsRefused.at_layout k) = absurd (not_laid bs g k is)
  declared_first f bs is h g other (l.IsRefused.at_declarations cs are k) = (one_declaration_fault_holds cs f g (subst (λ x. IsFirstFault x f) (same_blocks bs cs is are) h) k, refl)
  declared_first f bs is h g other (l.IsRefused.at_members cs n are k) = absurd (not_declared bs cs n f is h are)
  declared_first f bs is h g other (l.IsRefused.at_rules cs n ys are k) = absurd (not_declared bs cs n f is h are.declared)
  declared_first f bs is h g other (l.IsRefused.at_check cs n ys ss are all k) = absurd (not_declared bs cs n f is h are.declared)

  members_first : (f : RbFault) (bs : List Block) (m : Lists) → IsDeclared files bs m → IsMemberFault m bs f → Only f []
  members_first f bs m is h g other (l.IsRefused.at_layout k) = absurd (not_laid bs g k is.blocks_are)
  members_first f bs m is h g other (l.IsRefused.at_declarations cs are k) = absurd (not_declared cs bs m g are k is)
  members_first f bs m is h g other (l.IsRefused.at_members cs n are k) = (one_member_fault_holds n cs f g (same_member_fault bs cs m n f is are h) k, refl)
  members_first f bs m is h g other (l.IsRefused.at_rules cs n ys are k) = absurd (not_inferred bs cs m n ys f is h are)
  members_first f bs m is h g other (l.IsRefused.at_check cs n ys ss are all k) = absurd (not_inferred bs cs m n ys f is h are)

  rules_first : (f : RbFault) (bs : List Block) (m : Lists) (xs : List Inferred) → AreInferred files bs m xs → AreUnread bs m xs f → Only f []
  rules_first f bs m xs is h g other (l.IsRefused.at_layout k) = absurd (not_laid bs g k is.declared.blocks_are)
  rules_first f bs m xs is h g other (l.IsRefused.at_declarations cs are k) = absurd (not_declared cs bs m g are k is.declared)
  rules_first f bs m xs is h g other (l.IsRefused.at_members cs n are k) = absurd (not_inferred cs bs n m xs g are k is)
  rules_first f bs m xs is h g other (l.IsRefused.at_rules cs n ys are k) =
      (one_rule_fault_holds n ys cs (table_files 0 files) f g (carried (λ x y z. AreUnread x y z f) bs cs m n xs ys is are h) k, refl)
  rules_first f bs m xs is h g other (l.IsRefused.at_check cs n ys ss are all k) = absurd (not_read bs cs m n xs ys ss f is h are all)

  check_first : (f : RbFault) (bs : List Block) (m : Lists) (xs : List Inferred) (rs : List Rule) → AreInferred files bs m xs → AreRead bs m xs rs → IsCheckFault m rs f → Only f (phrases_of m f.cycle)
  check_first f bs m xs rs is read h g other (l.IsRefused.at_layout k) = absurd (not_laid bs g k is.declared.blocks_are)
  check_first f bs m xs rs is read h g other (l.IsRefused.at_declarations cs are k) = absurd (not_declared cs bs m g are k is.declared)
  check_first f bs m xs rs is read h g other (l.IsRefused.at_members cs n are k) = absurd (not_inferred cs bs n m xs g are k is)
  check_first f bs m xs rs is read h g other (l.IsRefused.at_rules cs n ys are k) = absurd (not_read cs bs n m ys xs rs g are k is read)
  check_first f bs m xs rs is read h g other (l.IsRefused.at_check cs n ys ss are all k) =
      let model : m ≡ n = same_model bs cs m n is.declared are.declared in
      let rules : rs ≡ ss = same_rules bs cs m n xs ys rs ss is are read all in
      let fault : f ≡ g = one_check_fault_holds n ss f g (subst (λ x. IsCheckFault x ss f) model (subst (λ x. IsCheckFault m x f) rules h)) k in
      (fault, ap₂ (λ (x : Lists) (y : RbFault). phrases_of x y.cycle) model fault)

  one_refusal : {f : RbFault} {circle : List (List ℕ)} → IsRefused files f circle → Only f circle
  one_refusal {f} (l.IsRefused.at_layout h) = laid_first f h
  one_refusal {f} (l.IsRefused.at_declarations bs is h) = declared_first f bs is h
  one_refusal {f} (l.IsRefused.at_members bs m is h) = members_first f bs m is h
  one_refusal {f} (l.IsRefused.at_rules bs m xs is h) = rules_first f bs m xs is h
  one_refusal {f} (l.IsRefused.at_check bs m xs rs is read h) = check_first f bs m xs rs is read h

  -- ---- no refusal of what is accepted

  not_refused : (base : Rulebase) (fault : RbFault) (circle : List (List ℕ)) → IsAccepted files base → IsRefused files fault circle → ⊥
  not_refused base fault circle h (l.IsRefused.at_layout k) = not_laid h.blocks fault k h.are_inferred.declared.blocks_are
  not_refused base fault circle h (l.IsRefused.at_declarations cs are k) = not_declared cs h.blocks base.model fault are k h.are_inferred.declared
  not_refused base fault circle h (l.IsRefused.at_members cs n are k) = not_inferred cs h.blocks n base.model h.inferences fault are k h.are_inferred
  not_refused base fault circle h (l.IsRefused.at_rules cs n ys are k) = not_read cs h.blocks n base.model ys h.inferences base.rules fault are k h.are_inferred h.are_rules
  not_refused base fault circle h (l.IsRefused.at_check cs n ys ss are all k) =
      let model : n ≡ base.model = same_model cs h.blocks n base.model are.declared h.are_inferred.declared in
      let rules : ss ≡ base.rules = same_rules cs h.blocks n base.model ys h.inferences ss base.rules are h.are_inferred all h.are_rules in
      rulebases_are_not_refused_hold base fault (subst (λ x. IsCheckFault x base.rules fault) model (subst (λ x. IsCheckFault n x fault) rules k))

pub one_refusal_holds : OneRefusal
one_refusal_holds files f g circle other h k = one_refusal files h g other k

pub accepted_or_refused_hold : AcceptedOrRefused
accepted_or_refused_hold files base fault circle h k = not_refused files base fault circle h k
