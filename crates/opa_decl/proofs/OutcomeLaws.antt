-- The first fault of blocks, or none.
use Rattle.std.proofs.Common.{◌≡◌, ◌∙◌, List, sym, ap, subst}
use Rattle.std.specs.Prelude.{Option, flat_map}
use Rattle.opa_tree.specs.declared.faults.RbFault.{RbFault}
use Rattle.opa_tree.specs.FirstFaults.{first_of, first_fault, IsFirst}
use Rattle.opa_tree.proofs.FirstFaultLaws.{first_fault_is_first_holds}
use Rattle.opa_decl.specs.declared.cut.CutBlock.{CutBlock}
use Rattle.opa_decl.specs.declared.items.Item.{Item}
use Rattle.opa_decl.specs.Declarations.{syntax_faults, items_of, item_faults, faults_of}
use Rattle.opa_decl.proofs.FoldLaws.{joined}

all_of : (cuts : List CutBlock) (items : List Item) (x y z : Option RbFault) → items ≡ items_of cuts → x ≡ first_fault (flat_map syntax_faults cuts) → y ≡ first_fault (item_faults items) → z ≡ first_of x y → z ≡ first_fault (faults_of cuts)
all_of cuts items x y z pi px py pz = pz ∙ joined (flat_map syntax_faults cuts) (item_faults (items_of cuts)) x y px (py ∙ ap (λ (i : List Item). first_fault (item_faults i)) pi)

pub outcome : (cuts : List CutBlock) (items : List Item) (x y z : Option RbFault) (o : Option RbFault) → items ≡ items_of cuts → x ≡ first_fault (flat_map syntax_faults cuts) → y ≡ first_fault (item_faults items) → z ≡ first_of x y → z ≡ o → IsFirst (faults_of cuts) o
outcome cuts items x y z o pi px py pz e =
    subst (λ (p : Option RbFault). IsFirst (faults_of cuts) p) (sym (all_of cuts items x y z pi px py pz) ∙ e) (first_fault_is_first_holds (faults_of cuts))
