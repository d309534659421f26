use Rattle.std.proofs.Common.{◌∙◌, sym}
use Rattle.opa_mean.proofs.goals.Knowing.{all_known_are}
use Rattle.opa_mean.proofs.goals.states.are_all_known.Goals as goal

pub returns-clause-exact : goal.returns-clause-exact
returns-clause-exact g c =
    let r = g.H.Held.rules c.args.held.now in let held = g.H.Held.held c.args.held.now in
    let both = all_known_are r held r.model.goals in
    (λ h. both.0 (sym c.all_known-known.ensures ∙ h), λ h. c.all_known-known.ensures ∙ both.1 h)
