use Rattle.std.proofs.Common.{refl, subst, sym, None}
use Rattle.opa_session.specs.Infer.Sessions.{rules_of}
use Rattle.opa_cases.specs.Holding.{AllFit}
use Rattle.opa_cases.proofs.FitLaws.{apart_none, fits_none}
use Rattle.opa_cases.proofs.OpenLaws.{fit_empty}
use Rattle.opa_cases.proofs.caseload.Caseload.start.Goals as goal

pub invariant_of-result : goal.invariant_of-result
invariant_of-result g c =
    let r = rules_of c.in_ok-session.session in
    record { apart = apart_none None c.new.result refl; fits = subst (AllFit r) (sym c.new.ensures) (fit_empty r); stands = fits_none r None refl }
