use Rattle.opa_verify.proofs.spelling.Breaking.{spelled_has_none_holds}
use Rattle.opa_verify.proofs.spelling.laws.spelled_has_none.Goals as goal

pub returns : goal.returns
returns c = spelled_has_none_holds
