use Rattle.std.proofs.Common.{◌∙◌, ap}
use Rattle.std.specs.Prelude.{◌==◌}
use Rattle.opa_text.proofs.screen.table.lies_on.Goals as goal

pub returns : goal.returns
returns c = ap (λ n. n == c.args.screen) (c.number-number.ensures ∙ c.requires c.args.question.now)
