use Rattle.opa_saved.proofs.RefusalLaws.{none_answered}
use Rattle.opa_saved.proofs.living.LivingStanding.is_answered.Goals as goal

pub returns : goal.returns
returns c = none_answered _
