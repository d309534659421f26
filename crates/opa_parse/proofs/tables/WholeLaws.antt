-- The rules of tables are taken after those of blocks.
use Rattle.std.proofs.Common.{◌≡◌, ℕ, ◌<◌, ◌≤◌, List, [], ◌∷◌, ◌++◌, length, refl, sym, ap, subst, ◌∙◌, append_assoc, arith}
use Rattle.std.specs.Prelude.{Some, None}
use Rattle.std.proofs.lemmas.List.{append-nil}
use Rattle.opa_model.specs.declared.lists.Lists.{Lists}
use Rattle.opa_words.specs.declared.layout.block.Block.{Block}
use Rattle.opa_tree.specs.declared.faults.RbFault.{RbFault}
use Rattle.opa_tree.specs.declared.rules.Inferred.{Inferred}
use Rattle.opa_tree.specs.declared.rules.Rule.{Rule}
use Rattle.opa_tree.specs.Accepted.{HaveForm, AreShallow}
use Rattle.opa_tree.specs.Trees.{HasForm, IsShallow}
use Rattle.opa_sentence.specs.declared.names.Names.{Names}
use Rattle.opa_parse.specs.declared.block.RuleBlock.{RuleBlock}
use Rattle.opa_io.specs.declared.limits.TheConstants.{MOST_RULES}
use Rattle.opa_parse.specs.declared.rules.Taken.{Taken}
use Rattle.opa_parse.specs.Handed.{AreFormed, AreDeclared}
use Rattle.opa_parse.specs.Naming.{names_in}
use Rattle.opa_parse.specs.Rules.{AreRuleBlocks, rule_faults, inferred_nodes}
use Rattle.opa_parse.specs.Runs.{IsTaken, TakesAll}
use Rattle.opa_parse.proofs.Handing as hand
use Rattle.opa_parse.proofs.Handing.{Of, Formed, all_of, each_of, members_form, rules_each, room, fewer, found_each, fine_of, declared_of, found_filed}
use Rattle.opa_parse.proofs.RuleLaws.{no_faults}
use Rattle.opa_parse.specs.declared.tables.whole.TableFile.{TableFile}
use Rattle.opa_parse.specs.Tables.Reading.{AreTableBlocks, TakesBlocks, TakesTable}
use Rattle.opa_parse.specs.Tables.Whole.{AreTabled, TakesTables, AreAllRules, AreAllRefused, AllAreFiledAs}
use Rattle.opa_parse.proofs.tables.Handing.{In, Concludes, table_fine, table_concludes, table_in}
use Rattle.opa_parse.proofs.tables.TakingLaws.{takes_none}

takes_both : (bs cs : List RuleBlock) (t u v : Taken) → TakesBlocks bs t u → TakesBlocks cs u v → TakesBlocks (bs ++ cs) t v
takes_both bs cs t u v h k start before is = subst (λ x. IsTaken start x v) (append_assoc before bs cs) (k start (before ++ bs) (h start before is))

-- ---- table by table

module _ (m : Lists) (ns : Names) where
  -- the rules of the first tables are taken, and the rest is still to be taken
  pub record AreRun (all rest : List TableFile) (t u : Taken) : Type 0 where
    pub blocks : List RuleBlock
    pub takes : TakesBlocks blocks t u
    pub left : (more : List RuleBlock) → AreTabled m ns rest more → AreTabled m ns all (blocks ++ more)

  pub run_starts : (all : List TableFile) (t : Taken) → AreRun all all t t
  run_starts all t = record { blocks = []; takes = takes_none t; left = λ more a. a }

  pub run_goes : (all rest later : List TableFile) (x : TableFile) (t u v : Taken) → rest ≡ x ∷ later → AreRun all rest t u → TakesTable m ns x.file x.bytes u v → AreRun all later t v
  run_goes all rest later x t u v e run k = record {
    blocks = run.blocks ++ k.0;
    takes = takes_both run.blocks k.0 t u v run.takes k.2;
    left = λ more a.
        subst (AreTabled m ns all) (sym (append_assoc run.blocks k.0 more))
        (run.left (k.0 ++ more) (subst (λ r. AreTabled m ns r (k.0 ++ more)) (sym e) (k.0, more, k.1, a, refl)));
  }

  pub run_ends : (all rest : List TableFile) (t u : Taken) → rest ≡ [] → AreRun all rest t u → TakesTables m ns all t u
  run_ends all rest t u e run =
      (run.blocks, subst (AreTabled m ns all) (append-nil run.blocks) (run.left [] (subst (λ r. AreTabled m ns r []) (sym e) refl)), run.takes)

-- ---- all rules

pub all_read : (m : Lists) (inferences : List Inferred) (blocks : List Block) (tables : List TableFile) (ns : Names) (none before t : Taken) (rules : List Rule) → ns ≡ names_in m inferences → IsTaken (inferred_nodes inferences) [] none
    → TakesAll m ns blocks none before → TakesTables m ns tables before t → t.first ≡ None → rules ≡ t.rules → AreAllRules m inferences blocks tables rules
all_read m inferences blocks tables ns none before t rules e begun some all p q =
    let run = some (inferred_nodes inferences) begun in
    let last = all.2 (inferred_nodes inferences) run.0 run.1 in
    record {
      found = run.0;
      are_found = subst (λ n. AreRuleBlocks m n blocks run.0) e run.2;
      tabled = all.0;
      are_tabled = subst (λ n. AreTabled m n tables all.0) e all.1;
      sound = no_faults (rule_faults inferences (run.0 ++ all.0)) (sym last.first_is ∙ p);
      rules_are = q ∙ last.rules_are p;
    }

pub all_refused : (m : Lists) (inferences : List Inferred) (blocks : List Block) (tables : List TableFile) (ns : Names) (none before t : Taken) (fault : RbFault) → ns ≡ names_in m inferences → IsTaken (inferred_nodes inferences) [] none
    → TakesAll m ns blocks none before → TakesTables m ns tables before t → t.first ≡ Some fault → AreAllRefused m inferences blocks tables fault
all_refused m inferences blocks tables ns none before t fault e begun some all p =
    let run = some (inferred_nodes inferences) begun in
    let last = all.2 (inferred_nodes inferences) run.0 run.1 in
    record {
      found = run.0;
      are_found = subst (λ n. AreRuleBlocks m n blocks run.0) e run.2;
      tabled = all.0;
      are_tabled = subst (λ n. AreTabled m n tables all.0) e all.1;
      first = sym last.first_is ∙ p;
    }

-- ---- what is handed on

module _ (m : Lists) (ns : Names) (P : Rule → Type 0) where
  -- what holds of each table's rules holds of the rules of all tables
  tabled_each : ((x : TableFile) (own : List RuleBlock) → AreTableBlocks m ns x.file x.bytes own → hand.Each (Of P) own) → (tables : List TableFile) (tabled : List RuleBlock) → AreTabled m ns tables tabled → hand.Each (Of P) tabled
  tabled_each h [] tabled a = subst (hand.Each (Of P)) (sym a) tt
  tabled_each h (x ∷ tables) tabled a = subst (hand.Each (Of P)) (sym a.4) (hand.each_append (Of P) a.0 a.1 (h x a.0 a.2) (tabled_each h tables a.1 a.3))

abbrev Fine : Rule → Type 0
Fine r = HasForm r.expr × IsShallow r.expr

abbrev Filed : ℕ → Rule → Type 0
Filed files r = r.file < files

abbrev Stands : ℕ → TableFile → Type 0
Stands files x = x.file < files

-- each stands in a file below the number, where each rule does
filed_of : (files file : ℕ) (blocks : List RuleBlock) → file < files → hand.Each (Of (In file)) blocks → hand.Each (Of (Filed files)) blocks
filed_of files file [] lt h = tt
filed_of files file (x ∷ blocks) lt h = (λ a e s p q r. subst (λ n. n < files) (sym (h.0 a e s p q r)) lt, filed_of files file blocks lt h.1)

tabled_filed : (m : Lists) (ns : Names) (files : ℕ) (tables : List TableFile) (tabled : List RuleBlock) → AreTabled m ns tables tabled → hand.Each (Stands files) tables → hand.Each (Of (Filed files)) tabled
tabled_filed m ns files [] tabled a h = subst (hand.Each (Of (Filed files))) (sym a) tt
tabled_filed m ns files (x ∷ tables) tabled a h =
    subst (hand.Each (Of (Filed files))) (sym a.4)
    (hand.each_append (Of (Filed files)) a.0 a.1 (filed_of files x.file a.0 h.0 (table_in m ns x.file x.bytes a.0 a.2)) (tabled_filed m ns files tables a.1 a.3 h.1))

module _ (m : Lists) (inferences : List Inferred) (blocks : List Block) (tables : List TableFile) (rules : List Rule) (h : AreAllRules m inferences blocks tables rules) where
  of_all : (P : Rule → Type 0) → hand.Each (Of P) h.found → hand.Each (Of P) h.tabled → hand.Each P rules
  of_all P a b = subst (hand.Each P) (sym h.rules_are) (rules_each P (h.found ++ h.tabled) (hand.each_append (Of P) h.found h.tabled a b))

  fine_hold : AreFormed inferences → hand.Each Fine rules
  fine_hold formed =
      let ns = names_in m inferences in
      let members = members_form inferences (each_of Formed inferences formed) in
      of_all Fine (found_each m ns (Of Fine) (fine_of m ns members) h.are_found) (tabled_each m ns Fine (λ x own a. table_fine m ns members x.file x.bytes own a) tables h.tabled h.are_tabled)

  pub formed_hold : AreFormed inferences → HaveForm rules
  formed_hold formed = all_of (λ (r : Rule). HasForm r.expr) rules (hand.each_left (λ (r : Rule). HasForm r.expr) (λ (r : Rule). IsShallow r.expr) rules (fine_hold formed))

  pub shallow_hold : AreFormed inferences → AreShallow rules
  shallow_hold formed = all_of (λ (r : Rule). IsShallow r.expr) rules (hand.each_right (λ (r : Rule). HasForm r.expr) (λ (r : Rule). IsShallow r.expr) rules (fine_hold formed))

  pub declared_hold : AreDeclared m rules
  declared_hold =
      let ns = names_in m inferences in
      all_of (Concludes m) rules (of_all (Concludes m) (found_each m ns (Of (Concludes m)) (declared_of m ns) h.are_found) (tabled_each m ns (Concludes m) (λ x own a. table_concludes m ns x.file x.bytes own a) tables h.tabled h.are_tabled))

  pub filed_hold : AllAreFiledAs blocks tables rules
  filed_hold files all also =
      let ns = names_in m inferences in
      all_of (Filed files) rules
      (of_all (Filed files) (found_filed m ns files h.are_found (each_of (λ (b : Block). b.file < files) blocks all)) (tabled_filed m ns files tables h.tabled h.are_tabled (each_of (Stands files) tables also)))

  pub few_hold : length rules ≤ 4000
  few_hold =
      let z : 0 ≤ MOST_RULES = omega arith in
      let k = room 0 (inferred_nodes inferences) (h.found ++ h.tabled) h.sound z in
      omega (arith, fewer (h.found ++ h.tabled), k, ap length h.rules_are)
