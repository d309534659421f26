use Rattle.std.proofs.Common.{sym, ap, ◌∙◌}
use Rattle.opa_case.specs.Cases.{CaseView}
use Rattle.opa_case.specs.Shapes.{shape_of}
use Rattle.opa_case.specs.Steps as step
use Rattle.opa_tree.specs.declared.rulebase.Rulebase.{Rulebase}
use Rattle.opa_reply.proofs.reporting.stats.conclusions.Goals as goal

pub returns : goal.returns
returns g c =
    let rules = g.H.Held.rules c.args.held.now in
    let case = g.H.Held.held c.args.held.now in
    let base = c.base-base.result.now in
    c.slots.ensures
    ∙ ap (λ (v : CaseView). step.slots (shape_of base.model) base.ruled v.live) c.case.ensures.case
    ∙ ap (λ (r : Rulebase). step.slots (shape_of r.model) r.ruled case.live) c.base-base.ensures
    ∙ sym (c.slots_counted.ensures rules case c.case.ensures.fits)
