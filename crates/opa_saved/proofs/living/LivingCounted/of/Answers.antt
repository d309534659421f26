use Rattle.std.proofs.Common.{ap, ◌∙◌, length}
use Rattle.opa_case.specs.Live.{members}
use Rattle.opa_saved.proofs.living.LivingCounted.of.Goals as goal

pub returns : goal.returns
returns c live is = c.count.ensures ∙ ap (λ l. length (members c.args.entity l)) is
