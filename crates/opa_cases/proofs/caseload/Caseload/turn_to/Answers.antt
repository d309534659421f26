use Rattle.std.proofs.Common.{sym, ◌∙◌}
use Rattle.opa_cases.proofs.OpenLaws.{turned_current}
use Rattle.opa_cases.proofs.caseload.Caseload.turn_to.Goals as goal

pub returns-then-eq-clause-ok : goal.returns-then-eq-clause-ok
returns-then-eq-clause-ok g c =
    let self = c.args.self.now in
    turned_current self.session self.current c.in-Some.current self.others c.args.name.now (sym c.take.ensures.value ∙ c.in-Some.is) (sym c.eq.ensures ∙ c.if-eq.true) self.apart
