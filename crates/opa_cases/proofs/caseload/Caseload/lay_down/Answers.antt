use Rattle.std.proofs.Common.{sym, subst, ◌∙◌}
use Rattle.opa_session.specs.Infer.Sessions.{rules_of}
use Rattle.opa_cases.specs.Holding.{FitsRules}
use Rattle.opa_cases.specs.Scripts.{opened_as}
use Rattle.opa_cases.proofs.FitLaws.{apart_none, fits_none, fit_after}
use Rattle.opa_cases.proofs.caseload.Caseload.lay_down.Goals as goal

pub invariant_of-self : goal.invariant_of-self
invariant_of-self g c =
    let self = c.args.self.now in
    let r = rules_of self.session in
    let v = opened_as c.in_ok-case.case c.args.current.reached c.args.current.pile in
    record {
      apart = apart_none self.current c.insert.new.self c.requires.none;
      fits = fit_after r c.insert.result self.others c.insert.new.self c.args.current.name v c.insert.ensures.ok c.insert.ensures.err
          (record { case = subst (FitsRules r) (sym (c.in_ok-case.ensures ∙ c.case.ensures.case)) c.case.ensures.fits.fits; pile = c.requires.fits }) self.fits;
      stands = fits_none r self.current c.requires.none;
    }
