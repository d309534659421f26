use Rattle.opa_text.proofs.ReadBack.{names_read_back_holds}
use Rattle.opa_text.proofs.laws.names_read_back.Goals as goal

pub returns : goal.returns
returns c = names_read_back_holds
