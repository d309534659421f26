use Rattle.std.proofs.Common.{◌≡◌, ◌∙◌, sym, rules}
use Rattle.opa_mean.specs.Given.{base_of}
use Rattle.opa_mean.specs.Goals.Freedom.{never_asks}
use Rattle.opa_mean.specs.Goals.Rulebases.{rulebase_of}
use Rattle.opa_mean.proofs.goals.Reaching.{free_is_found}
use Rattle.opa_mean.proofs.goals.freedom.Frees.is_free.Goals as goal

pub returns-clause-exact : goal.returns-clause-exact
returns-clause-exact c =
    let frees = c.args.self.now in
    let same : c.told_free-free.result ≡ never_asks (base_of (rulebase_of frees)) c.args.attr = search rules in
    let both = free_is_found (rulebase_of frees) c.args.attr in
    (λ h. both.0 (sym same ∙ h), λ h. same ∙ both.1 h)
