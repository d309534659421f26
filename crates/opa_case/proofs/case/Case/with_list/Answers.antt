use Rattle.opa_case.specs.Shapes.{shape_of}
use Rattle.opa_case.proofs.Relisting.{set_referred}
use Rattle.opa_case.proofs.Shaped.{shape_is}
use Rattle.opa_case.proofs.case.Case.with_list.Goals as goal

pub overlay-requires-clause-referred : goal.overlay-requires-clause-referred
overlay-requires-clause-referred c =
    set_referred (shape_of c.args.model.now) c.args.ruled.now (shape_is c.args.model.now c.in_ok-moves.ensures.form) c.args.self.now c.args.rel c.args.inst.now c.requires.declared c.requires.fits c.args.names.now c.in_ok-moves.ensures.ok
