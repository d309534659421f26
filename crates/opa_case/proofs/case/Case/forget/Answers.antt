use Rattle.std.specs.Prelude.{None}
use Rattle.std.proofs.Common.{sym, subst}
use Rattle.opa_case.specs.Shapes.{shape_of}
use Rattle.opa_case.specs.Cases.{CaseView}
use Rattle.opa_case.specs.Fits.{Fits}
use Rattle.opa_case.proofs.Relisting.{fits_then}
use Rattle.opa_case.proofs.Shaped.{shape_is}
use Rattle.opa_case.proofs.case.Case.forget.Goals as goal

pub returns-clause-fits : goal.returns-clause-fits
returns-clause-fits c =
    subst (λ (v : CaseView). Fits (shape_of c.args.model.now) c.args.ruled.now v) (sym c.in_ok-write_list.ensures.ok)
    (fits_then (shape_of c.args.model.now) c.args.ruled.now (shape_is c.args.model.now c.in_ok-moves.ensures.form) c.args.self.now c.args.rel c.args.inst.now c.requires.declared c.requires.fits None c.in_ok-moves.ensures.ok)
