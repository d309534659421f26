-- The rules of a table are taken one after another.
use Rattle.std.proofs.Common.{◌≡◌, ℕ, ◌+◌, List, [], ◌∷◌, ◌++◌, length, refl, sym, ap, subst, ◌∙◌, append_assoc, arith}
use Rattle.std.specs.Prelude.{Option, Some, None}
use Rattle.std.proofs.lemmas.List.{append-nil}
use Rattle.opa_model.specs.declared.ids.AttrId.{AttrId}
use Rattle.opa_model.specs.declared.lists.Lists.{Lists}
use Rattle.opa_tree.specs.declared.faults.RbFault.{RbFault}
use Rattle.opa_tree.specs.declared.rules.Inferred.{Inferred}
use Rattle.opa_tree.specs.declared.rules.Rule.{Rule}
use Rattle.opa_sentence.specs.declared.names.Names.{Names}
use Rattle.opa_parse.specs.declared.block.RuleBlock.{RuleBlock}
use Rattle.opa_parse.specs.declared.rules.Taken.{Taken}
use Rattle.opa_parse.specs.Naming.{names_in}
use Rattle.opa_parse.specs.Rules.{rule_faults, inferred_nodes}
use Rattle.opa_parse.specs.Runs.{IsTaken, Takes}
use Rattle.opa_parse.proofs.RuleLaws.{no_faults}
use Rattle.opa_parse.specs.declared.tables.cells.Table.{Table}
use Rattle.opa_parse.specs.Tables.Columns.{column_block, blocks_from}
use Rattle.opa_parse.specs.Tables.Reading.{AreTableBlocks, TakesBlocks, TakesTable, AreTableRules, IsTableRefused}

pub takes_none : (t : Taken) → TakesBlocks [] t t
takes_none t start before h = subst (λ x. IsTaken start x t) (sym (append-nil before)) h

pub takes_more : (bs : List RuleBlock) (b : RuleBlock) (t u v : Taken) → TakesBlocks bs t u → Takes b u v → TakesBlocks (bs ++ b ∷ []) t v
takes_more bs b t u v h k start before is = subst (λ x. IsTaken start x v) (append_assoc before bs (b ∷ [])) (k start (before ++ bs) (h start before is))

pub takes_one : (b : RuleBlock) (t u : Taken) → Takes b t u → TakesBlocks (b ∷ []) t u
takes_one b t u h = takes_more [] b t t u (takes_none t) h

-- ---- column by column

module _ (file : ℕ) (d : Table) (attrs : List (Option AttrId)) (t : Taken) where
  -- the first columns are taken, and the rest is still to be taken
  pub record AreTaken (place : ℕ) (rest : List (Option AttrId)) (u : Taken) : Type 0 where
    pub blocks : List RuleBlock
    pub split : blocks_from file d 0 attrs ≡ blocks ++ blocks_from file d place rest
    pub takes : TakesBlocks blocks t u
    pub counted : place + length rest ≡ length attrs

  pub columns_start : AreTaken 0 attrs t
  columns_start = record { blocks = []; split = refl; takes = takes_none t; counted = omega arith }

  pub columns_more : (place next : ℕ) (rest later : List (Option AttrId)) (a : Option AttrId) (b : RuleBlock) (u v : Taken) → rest ≡ a ∷ later → AreTaken place rest u → b ≡ column_block file d place a → Takes b u v → next ≡ place + 1 → AreTaken next later v
  columns_more place next rest later a b u v e h is k n = record {
    blocks = h.blocks ++ b ∷ [];
    split =
        h.split ∙ ap (λ r. h.blocks ++ blocks_from file d place r) e ∙ ap (λ x. h.blocks ++ x ∷ blocks_from file d (place + 1) later) (sym is)
        ∙ ap (λ x. h.blocks ++ b ∷ blocks_from file d x later) (sym n) ∙ sym (append_assoc h.blocks (b ∷ []) (blocks_from file d next later));
    takes = takes_more h.blocks b t u v h.takes k;
    counted = omega (arith, h.counted, n, ap length e);
  }

  pub columns_end : (place : ℕ) (rest : List (Option AttrId)) (u : Taken) → rest ≡ [] → AreTaken place rest u → TakesBlocks (blocks_from file d 0 attrs) t u
  columns_end place rest u e h = subst (λ bs. TakesBlocks bs t u) (sym (h.split ∙ ap (λ r. h.blocks ++ blocks_from file d place r) e ∙ append-nil h.blocks)) h.takes

-- ---- a whole table

pub rules_read : (m : Lists) (inferences : List Inferred) (file : ℕ) (bytes : List ℕ) (ns : Names) (none t : Taken) (rules : List Rule) → ns ≡ names_in m inferences → IsTaken (inferred_nodes inferences) [] none
    → TakesTable m ns file bytes none t → t.first ≡ None → rules ≡ t.rules → AreTableRules m inferences file bytes rules
rules_read m inferences file bytes ns none t rules e begun all p q =
    let run = all.2 (inferred_nodes inferences) [] begun in
    record {
      blocks = all.0;
      are_blocks = subst (λ n. AreTableBlocks m n file bytes all.0) e all.1;
      sound = no_faults (rule_faults inferences all.0) (sym run.first_is ∙ p);
      rules_are = q ∙ run.rules_are p;
    }

pub rules_refused : (m : Lists) (inferences : List Inferred) (file : ℕ) (bytes : List ℕ) (ns : Names) (none t : Taken) (fault : RbFault) → ns ≡ names_in m inferences → IsTaken (inferred_nodes inferences) [] none
    → TakesTable m ns file bytes none t → t.first ≡ Some fault → IsTableRefused m inferences file bytes fault
rules_refused m inferences file bytes ns none t fault e begun all p =
    let run = all.2 (inferred_nodes inferences) [] begun in
    record {
      blocks = all.0;
      are_blocks = subst (λ n. AreTableBlocks m n file bytes all.0) e all.1;
      first = sym run.first_is ∙ p;
    }
