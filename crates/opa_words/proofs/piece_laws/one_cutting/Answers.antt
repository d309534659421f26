use Rattle.opa_words.proofs.LawsHold.{one_cutting_holds}
use Rattle.opa_words.proofs.piece_laws.one_cutting.Goals as goal

pub returns : goal.returns
returns c = one_cutting_holds
