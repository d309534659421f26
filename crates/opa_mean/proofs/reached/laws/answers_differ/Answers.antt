use Rattle.opa_mean.proofs.reached.Answering.{answers_differ}
use Rattle.opa_mean.proofs.reached.laws.answers_differ.Goals as goal

pub returns : goal.returns
returns c = answers_differ
