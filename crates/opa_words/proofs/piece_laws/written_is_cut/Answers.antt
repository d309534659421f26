use Rattle.opa_words.proofs.LawsHold.{written_is_cut_holds}
use Rattle.opa_words.proofs.piece_laws.written_is_cut.Goals as goal

pub returns : goal.returns
returns c = written_is_cut_holds
