use Rattle.opa_case.specs.Shapes.{shape_of}
use Rattle.opa_case.proofs.Overlaid.{referred_without}
use Rattle.opa_case.proofs.case.Case.without_list.Goals as goal

pub overlay-requires-clause-referred : goal.overlay-requires-clause-referred
overlay-requires-clause-referred c = referred_without (shape_of c.args.model.now) c.args.ruled.now c.args.self.now c.requires.fits c.args.rel c.args.inst.now
