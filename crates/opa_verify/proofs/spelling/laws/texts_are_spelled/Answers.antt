use Rattle.opa_verify.proofs.spelling.Feeding.{texts_are_spelled_holds}
use Rattle.opa_verify.proofs.spelling.laws.texts_are_spelled.Goals as goal

pub returns : goal.returns
returns c = texts_are_spelled_holds
