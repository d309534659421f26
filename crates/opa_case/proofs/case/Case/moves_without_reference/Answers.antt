use Rattle.std.specs.Prelude.{None}
use Rattle.std.proofs.Common.{ap}
use Rattle.opa_case.specs.Shapes.{shape_of}
use Rattle.opa_case.specs.Cases.{CaseView}
use Rattle.opa_case.proofs.Referring.{reference_forgotten}
use Rattle.opa_case.proofs.Relisting.{none_move}
use Rattle.opa_case.proofs.Shaped.{shape_is}
use Rattle.opa_case.proofs.case.Case.moves_without_reference.Goals as goal

pub returns : goal.returns
returns c =
    let s = shape_of c.args.model.now in
    let same = reference_forgotten s c.args.ruled.now (shape_is c.args.model.now c.requires.form) c.args.self.now c.requires.fits c.args.rel c.args.inst.now c.requires.refers in
    none_move s c.args.self.now c.args.rel c.args.inst.now None c.in_ok-moves.moves (ap (λ (v : CaseView). v.live) same) (ap (λ (v : CaseView). v.every) same)
    c.in_ok-moves.ensures.went c.in_ok-moves.ensures.came c.in_ok-moves.ensures.counts c.in_ok-moves.ensures.every
