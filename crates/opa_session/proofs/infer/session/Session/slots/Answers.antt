use Rattle.std.proofs.Common.{sym, ap, ◌∙◌}
use Rattle.opa_case.specs.Cases.{CaseView}
use Rattle.opa_case.specs.Shapes.{shape_of}
use Rattle.opa_case.specs.Steps as step
use Rattle.opa_tree.specs.declared.rulebase.Rulebase.{Rulebase}
use Rattle.opa_session.specs.Infer.Sessions.{rules_of, held_of}
use Rattle.opa_session.proofs.infer.session.Session.slots.Goals as goal

pub returns : goal.returns
returns g c =
    let rules = rules_of c.args.self.now in
    let case = held_of c.args.self.now in
    let base = c.base-base.result.now in
    c.slots.ensures
    ∙ ap (λ (v : CaseView). step.slots (shape_of base.model) base.ruled v.live) c.case.ensures.case
    ∙ ap (λ (r : Rulebase). step.slots (shape_of r.model) r.ruled case.live) c.base-base.ensures
    ∙ sym (c.slots_counted.ensures rules case c.case.ensures.fits)
