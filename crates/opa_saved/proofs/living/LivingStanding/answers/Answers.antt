use Rattle.opa_saved.proofs.RefusalLaws.{no_answers}
use Rattle.opa_saved.proofs.living.LivingStanding.answers.Goals as goal

pub returns : goal.returns
returns c = no_answers
