-- Items without a fault declare a model.
use Rattle.std.proofs.Common.{◌≡◌, ◌∙◌, ◌+◌, ◌<◌, ◌^◌, List, [], length, All, sym, ap, subst, arith}
use Rattle.std.specs.Prelude.{flat_map}
use Rattle.opa_model.specs.declared.lists.Lists.{Lists}
use Rattle.opa_model.specs.Models.{IsModel}
use Rattle.opa_decl.specs.declared.cut.CutBlock.{CutBlock}
use Rattle.opa_decl.specs.declared.items.Item.{Item}
use Rattle.opa_decl.specs.Declarations.{model_of, item_faults, items_of, faults_of, syntax_faults}
use Rattle.opa_decl.specs.Lists.{lists_of}
use Rattle.opa_decl.specs.Names.{Tables, tables_of}
use Rattle.opa_decl.proofs.AttributeLaws.{DeclaresFew, decimals_few, bools_said}
use Rattle.opa_decl.proofs.ContainmentLaws.{all_over_all, each_contained, each_containment}
use Rattle.opa_decl.proofs.DecimalLaws.{few_decimals}
use Rattle.opa_decl.proofs.FormLaws.{phrases_apart, items_apart}
use Rattle.opa_decl.proofs.MadeLists.{made, AreNamed, AreFaultless, named_by_tables, without_fault}
use Rattle.opa_decl.proofs.NumberedLaws.{no_parts}
use Rattle.opa_decl.proofs.RangeLaws.{in_range, few, goals_of_global}

made_model : (t : Tables) (items : List Item) → AreNamed t items → AreFaultless t items → All DeclaresFew items → length items + 1 < 2 ^ 32 → IsModel (made t items)
made_model t items named ok decimals short = record {
  has_global = omega arith;
  few = few t items short;
  in_range = in_range t items named ok;
  goals_are_global = goals_of_global t items named ok;
  phrases_differ = phrases_apart t items ok;
  decimals = decimals_few t items decimals;
  bools_have_sentences = bools_said t items;
  items_differ = items_apart t items named ok;
  contained = each_contained t items named ok;
  containments = each_containment t items named ok;
  over_all = all_over_all t items;
}

pub declared_model : (items : List Item) → item_faults items ≡ [] → All DeclaresFew items → length items + 1 < 2 ^ 32 → IsModel (model_of items)
unfolding model_of item_faults lists_of
declared_model items none decimals short = made_model (tables_of items) items (named_by_tables items) (without_fault (tables_of items) items none) decimals short

-- blocks without a fault declare a model
pub declared_by : (blocks : List CutBlock) (items : List Item) (l : Lists) → faults_of blocks ≡ [] → items ≡ items_of blocks → l ≡ model_of items → length items + 1 < 2 ^ 32 → IsModel l
declared_by blocks items l none is made short =
    let none_of : item_faults items ≡ [] = ap item_faults is ∙ (no_parts (flat_map syntax_faults blocks) (item_faults (items_of blocks)) none).1 in
    subst IsModel (sym made) (declared_model items none_of (subst (λ (is : List Item). All DeclaresFew is) (sym is) (few_decimals blocks)) short)
