use Rattle.std.proofs.Common.{◌∙◌, ap}
use Rattle.opa_case.specs.Cases.{CaseView}
use Rattle.opa_tree.specs.declared.rulebase.Rulebase.{Rulebase}
use Rattle.opa_mean.specs.Changes.{slots}
use Rattle.opa_mean.specs.Given.{base_of, facts_of}
use Rattle.opa_session.proofs.telling.Reached.{is_of_same}
use Rattle.opa_session.proofs.telling.walk.slots.Goals as goal

pub live_slots-requires : goal.live_slots-requires
live_slots-requires g c = is_of_same _ _ _ _ c.base-base.ensures c.case-case.ensures.case c.case-case.ensures.fits

pub returns : goal.returns
returns g c =
    c.in_ok-all.ensures ∙ ap (λ (r : Rulebase). slots (base_of r) (facts_of c.case-case.result.now)) c.base-base.ensures
    ∙ ap (λ (k : CaseView). slots (base_of (g.H.Held.rules c.args.held.now)) (facts_of k)) c.case-case.ensures.case
