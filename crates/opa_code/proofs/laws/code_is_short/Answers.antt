use Rattle.opa_code.proofs.Sizing as law
use Rattle.opa_code.proofs.laws.code_is_short.Goals as goal

pub returns : goal.returns
returns c = law.code_is_short
