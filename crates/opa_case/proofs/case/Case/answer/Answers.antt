use Rattle.std.proofs.Common.{sym, subst, ◌∙◌}
use Rattle.opa_case.specs.Shapes.{shape_of}
use Rattle.opa_case.specs.Cases.{CaseView}
use Rattle.opa_case.specs.Fits.{Fits}
use Rattle.opa_case.proofs.Answering.{answered_kept}
use Rattle.opa_case.proofs.Shaped.{shape_is}
use Rattle.opa_case.proofs.case.Case.answer.Goals as goal

pub returns-clause-fits : goal.returns-clause-fits
returns-clause-fits c =
    subst (λ (v : CaseView). Fits (shape_of c.args.model.now) c.args.ruled.now v) (sym c.in_ok-put_answer.ensures.ok)
    (answered_kept (shape_of c.args.model.now) c.args.ruled.now (shape_is c.args.model.now c.answer_fault.ensures.form) c.args.self.now c.args.attr c.args.inst.now c.args.line c.requires.declared c.requires.fits (sym c.answer_fault.ensures.value ∙ c.in_default.is))
