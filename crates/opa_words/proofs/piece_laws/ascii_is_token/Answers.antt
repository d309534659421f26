use Rattle.opa_words.proofs.LawsHold.{ascii_is_token_holds}
use Rattle.opa_words.proofs.piece_laws.ascii_is_token.Goals as goal

pub returns : goal.returns
returns c = ascii_is_token_holds
