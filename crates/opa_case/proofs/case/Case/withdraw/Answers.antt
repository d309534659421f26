use Rattle.std.proofs.Common.{sym, subst}
use Rattle.opa_case.specs.Shapes.{shape_of}
use Rattle.opa_case.specs.Cases.{CaseView}
use Rattle.opa_case.specs.Fits.{Fits}
use Rattle.opa_case.proofs.Answering.{withdrawn_kept}
use Rattle.opa_case.proofs.case.Case.withdraw.Goals as goal

pub returns-clause-fits : goal.returns-clause-fits
returns-clause-fits c =
    subst (λ (v : CaseView). Fits (shape_of c.args.model.now) c.args.ruled.now v) (sym c.drop_answer.ensures)
    (withdrawn_kept (shape_of c.args.model.now) c.args.ruled.now c.args.self.now c.args.attr c.args.inst.now c.requires.fits)
