use Rattle.std.proofs.Common.{sym, subst}
use Rattle.opa_session.specs.Infer.Sessions.{rules_of}
use Rattle.opa_cases.specs.Holding.{PileFits}
use Rattle.opa_cases.proofs.FitLaws.{taken_back, pile_front}
use Rattle.opa_cases.proofs.supposing.undo.Goals as goal

pub returns-in_ok-text-in-Some-clause-ok : goal.returns-in_ok-text-in-Some-clause-ok
returns-in_ok-text-in-Some-clause-ok g c = taken_back _ _ c.in-Some.kept c.pop.new.self _ c.in-Some.ensures c.in_ok-text-in-Some.ensures c.in_ok-bring-in-Some.ensures.ok

pub returns-in_ok-text-in-Some-clause-fits : goal.returns-in_ok-text-in-Some-clause-fits
returns-in_ok-text-in-Some-clause-fits g c =
    subst (PileFits (rules_of c.args.session.now)) (sym c.in_ok-bring-in-Some.ensures.pile) (pile_front (rules_of c.args.session.now) _ c.pop.new.self c.in-Some.kept c.in-Some.ensures c.requires.fits)
