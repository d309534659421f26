use Rattle.std.proofs.Common.{sym, ◌∙◌}
use Rattle.opa_session.proofs.infer.Unanswered.{unknown_stands}
use Rattle.opa_session.proofs.infer.session.Session.value.Goals as goal

pub returns-then-has_place-clause-line : goal.returns-then-has_place-clause-line
returns-then-has_place-clause-line g c =
    unknown_stands c.args.self.now.base c.args.self.now.case c.case-case.ensures.fits c.args.attr c.args.inst.now c.args.self.now.unknown c.args.self.now.nothing (sym c.has_place.ensures ∙ c.if-has_place.true) c.in-None.ensures.none
