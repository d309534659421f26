use Rattle.std.proofs.Common.{ap, ◌∙◌}
use Rattle.opa_rules.specs.Faults.Nearest.{least}
use Rattle.opa_rules.proofs.NearLaws.{nearest_is}
use Rattle.opa_rules.proofs.faults.nearest.nearest.Goals as goal

pub returns : goal.returns
returns c = c.first_within.ensures ∙ nearest_is c.args.text.now c.args.phrases.now c.least-far.result (c.least-far.ensures ∙ ap (λ n. least c.args.text.now n c.args.phrases.now) c.nearness.ensures)
