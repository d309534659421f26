use Rattle.opa_session.specs.Infer.Sessions.{rules_of}
use Rattle.opa_cases.proofs.FitLaws.{pile_more}
use Rattle.opa_cases.proofs.supposing.suppose.Goals as goal

pub returns-clause-fits : goal.returns-clause-fits
returns-clause-fits g c = pile_more (rules_of c.args.session.now) _ _ _ _ c.in_ok-keep.ensures.ok c.in_ok-keep.ensures.case c.requires.fits
