use Rattle.std.proofs.Common.{◌≡◌, false, sym, subst, ap, ◌∙◌}
use Rattle.opa_case.specs.Cases.{CaseView}
use Rattle.opa_case.specs.Homes.{AreCounts}
use Rattle.opa_case.specs.Shapes.{shape_of}
use Rattle.opa_case.specs.Steps as step
use Rattle.opa_case.specs.declared.declared.Bond.{Bond}
use Rattle.opa_case.proofs.Referring.{reference_set}
use Rattle.opa_case.proofs.Shaped.{shape_is}
use Rattle.opa_case.proofs.case.Case.is_full_with.Goals as goal

pub returns-else-bond_of : goal.returns-else-bond_of
returns-else-bond_of c =
    let s = shape_of c.args.model.now in
    let refers : s.contains c.args.rel ≡ false = ap (λ (d : Bond). d.contains) (sym c.bond_of.ensures.value) ∙ c.if-bond_of.false in
    c.is_full-else-bond_of.ensures c.args.self.now.live (subst (AreCounts c.self.inside.living.counts) (ap (λ (v : CaseView). v.live) c.self.view_is) c.self.invariant.1)
    ∙ ap (λ (v : CaseView). step.is_full s c.args.ruled.now v.live) (reference_set s c.args.ruled.now (shape_is c.args.model.now c.bond_of.ensures.form) c.args.self.now c.requires.fits c.args.rel c.args.inst.now refers c.args.names.now c.requires.free)
