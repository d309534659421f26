use Rattle.std.proofs.Common.{sym, subst}
use Rattle.opa_tree.specs.declared.rulebase.Rulebase.{Rulebase}
use Rattle.opa_session.specs.Infer.Sessions.{rules_of}
use Rattle.opa_cases.specs.Holding.{AllFit}
use Rattle.opa_cases.proofs.FitLaws.{apart_none, fits_none, fit_taken}
use Rattle.opa_cases.proofs.caseload.Caseload.take_up.Goals as goal

pub invariant_of-self : goal.invariant_of-self
invariant_of-self g c =
    let self = c.args.self.now in
    let others = c.take-found.new.self in
    record {
      apart = apart_none self.current others c.requires.none;
      fits = subst (λ (r : Rulebase). AllFit r others) (sym c.replace_case.ensures.base) (fit_taken (rules_of self.session) self.others others c.args.name c.take-found.ensures.rest self.fits);
      stands = fits_none (rules_of c.replace_case.new.self) self.current c.requires.none;
    }
