use Rattle.std.specs.FinMap.{get}
use Rattle.std.specs.List.{list_any}
use Rattle.std.proofs.Common.{ap, sym, ◌∙◌}
use Rattle.std.specs.Prelude.{unwrap_or, [], refl}
use Rattle.opa_cells.specs.Instances.{is_text}
use Rattle.opa_case.specs.Cases.{are_names}
use Rattle.opa_case.specs.Shapes.{shape_of}
use Rattle.opa_case.proofs.Kept.{kept_name}
use Rattle.opa_case.proofs.Naming.{names_known}
use Rattle.opa_case.proofs.Shaped.{shape_is}
use Rattle.opa_case.proofs.case.Case.fault_of_list.Goals as goal

pub list_fault_over-requires-clause-names : goal.list_fault_over-requires-clause-names
list_fault_over-requires-clause-names c =
    ap are_names (c.known_names-known.ensures ∙ ap (λ o. unwrap_or o []) c.stored_of.ensures)
    ∙ names_known (get c.args.self.now.lists (c.args.rel.0, c.args.inst.now)) (λ names is. c.lists-lists.ensures.names c.args.rel c.args.inst.now names is)

pub list_fault_over-requires-clause-free : goal.list_fault_over-requires-clause-free
list_fault_over-requires-clause-free c n listed =
    kept_name (shape_of c.args.model.now) c.args.ruled.now (shape_is c.args.model.now c.bond_of-bond.ensures.form) c.args.self.now c.requires c.args.rel c.args.inst.now _ refl n
    (sym (ap (list_any (is_text n)) (c.known_names-known.ensures ∙ ap (λ o. unwrap_or o []) c.stored_of.ensures)) ∙ listed)
