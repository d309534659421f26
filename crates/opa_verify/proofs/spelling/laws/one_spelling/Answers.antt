use Rattle.opa_verify.proofs.spelling.Sameness.{one_spelling_holds}
use Rattle.opa_verify.proofs.spelling.laws.one_spelling.Goals as goal

pub returns : goal.returns
returns c = one_spelling_holds
