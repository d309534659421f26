use Rattle.std.specs.Prelude.{Some, Ok}
use Rattle.std.proofs.Common.{sym, subst, ap, ◌∙◌}
use Rattle.opa_case.specs.Shapes.{shape_of}
use Rattle.opa_case.specs.Homes.{AreCounts}
use Rattle.opa_case.specs.Cases.{CaseView}
use Rattle.opa_case.proofs.Referring.{reference_set, reference_full, reference_fine}
use Rattle.opa_case.proofs.Relisting.{none_move}
use Rattle.opa_case.proofs.Shaped.{shape_is}
use Rattle.opa_case.proofs.case.Case.moves_with_reference.Goals as goal

pub returns-then-is_full-clause-err : goal.returns-then-is_full-clause-err
returns-then-is_full-clause-err c _ =
    let s = shape_of c.args.model.now in
    reference_full s c.args.ruled.now (shape_is c.args.model.now c.requires.form) c.args.self.now c.requires.fits c.args.rel c.args.inst.now c.requires.refers c.args.names.now c.requires.free
    (sym (c.is_full.ensures c.args.self.now.live (subst (AreCounts c.self.inside.living.counts) (ap (λ (v : CaseView). v.live) c.self.view_is) c.self.invariant.1)) ∙ c.if-is_full.true)

pub returns-clause-moves : goal.returns-clause-moves
returns-clause-moves c =
    let s = shape_of c.args.model.now in
    let same = reference_set s c.args.ruled.now (shape_is c.args.model.now c.requires.form) c.args.self.now c.requires.fits c.args.rel c.args.inst.now c.requires.refers c.args.names.now c.requires.free in
    none_move s c.args.self.now c.args.rel c.args.inst.now (Some c.args.names.now) c.in_ok-moves.moves (ap (λ (v : CaseView). v.live) same) (ap (λ (v : CaseView). v.every) same)
    c.in_ok-moves.ensures.went c.in_ok-moves.ensures.came c.in_ok-moves.ensures.counts c.in_ok-moves.ensures.every

pub returns-clause-ok : goal.returns-clause-ok
returns-clause-ok c =
    let s = shape_of c.args.model.now in
    let shape = shape_is c.args.model.now c.requires.form in
    reference_fine s c.args.ruled.now shape c.args.self.now c.requires.fits c.args.rel c.args.inst.now c.requires.refers c.args.names.now c.requires.free
    (sym (c.is_full.ensures c.args.self.now.live (subst (AreCounts c.self.inside.living.counts) (ap (λ (v : CaseView). v.live) c.self.view_is) c.self.invariant.1)) ∙ c.if-is_full.false)
    ∙ ap Ok (reference_set s c.args.ruled.now shape c.args.self.now c.requires.fits c.args.rel c.args.inst.now c.requires.refers c.args.names.now c.requires.free)
