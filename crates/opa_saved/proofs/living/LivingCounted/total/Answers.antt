use Rattle.std.proofs.Common.{ap, ◌∙◌, length}
use Rattle.opa_saved.proofs.living.LivingCounted.total.Goals as goal

pub returns : goal.returns
returns c live is = c.len.ensures ∙ ap length is
