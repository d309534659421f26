use Rattle.std.proofs.Common.{sym, ap, ◌∙◌, is_some}
use Rattle.std.specs.Prelude.{◌||◌}
use Rattle.std.specs.FinMap as map
use Rattle.opa_cases.proofs.OpenLaws.{has_some}
use Rattle.opa_cases.proofs.caseload.Caseload.has.Goals as goal

pub returns-then-eq : goal.returns-then-eq
returns-then-eq g c =
    let self = c.args.self.now in
    c.if-eq.true
    ∙ ap (λ b. b || is_some (map.get self.others c.args.name.now)) (sym (sym c.eq.ensures ∙ c.if-eq.true))
    ∙ has_some self.session self.current c.in-Some.current self.others c.in-Some.is c.args.name.now

pub returns-else-eq : goal.returns-else-eq
returns-else-eq g c =
    let self = c.args.self.now in
    c.has-else-eq.ensures
    ∙ ap (λ b. b || is_some (map.get self.others c.args.name.now)) (sym (sym c.eq.ensures ∙ c.if-eq.false))
    ∙ has_some self.session self.current c.in-Some.current self.others c.in-Some.is c.args.name.now
