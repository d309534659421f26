use Rattle.opa_script.proofs.LawsHold.{refused_or_read_holds}
use Rattle.opa_script.proofs.laws.refused_or_read.Goals as goal

pub returns : goal.returns
returns c = refused_or_read_holds
