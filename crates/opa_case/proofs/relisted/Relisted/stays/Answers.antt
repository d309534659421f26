use Rattle.std.specs.Prelude.{not}
use Rattle.std.specs.List.{list_any}
use Rattle.std.specs.Option.{option_copied}
use Rattle.std.proofs.Common.{ap, sym, ◌∙◌}
use Rattle.opa_cells.specs.Instances.{named}
use Rattle.opa_case.specs.declared.declared.Bond.{Bond}
use Rattle.opa_case.specs.Shapes.{shape_of}
use Rattle.opa_case.specs.Turns.{is_among}
use Rattle.opa_case.specs.Relists.{lists_with, relisted}
use Rattle.opa_case.proofs.GoingNames.{one_goes}
use Rattle.opa_case.proofs.Overlaid.{stays_then}
use Rattle.opa_case.proofs.relisted.Relisted.stays.Goals as goal

pub returns-else-bond : goal.returns-else-bond
returns-else-bond c =
    let n = c.args.self.now in
    let s = shape_of n.model.now in
    let o = option_copied n.names in
    ap not (c.names_one.ensures
    ∙ one_goes n.went.items n.lost.entries n.inst.now n.lost_are c.bond_of-bond.result.target c.as_slice.result.now
    ∙ ap (λ (d : Bond). list_any (λ m. is_among n.went.items (named d.target m)) c.as_slice.result.now) c.bond_of-bond.ensures.value
    ∙ ap (list_any (λ m. is_among n.went.items (named (s.target c.args.rel) m))) c.as_slice.ensures)
    ∙ stays_then n.case.now.live (relisted s n.case.now n.rel n.inst.now o).live n.went.items n.came.items n.inst.now n.turns s (lists_with n.case.now.lists n.rel n.inst.now o) c.args.rel c.args.inst.now c.args.names.now n.referred (sym c.requires)
    (ap (λ (d : Bond). d.contains) (sym c.bond_of-bond.ensures.value) ∙ c.if-bond.false)
    (sym c.live.ensures ∙ c.if-not-live.false)
