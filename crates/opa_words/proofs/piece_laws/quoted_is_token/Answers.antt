use Rattle.opa_words.proofs.LawsHold.{quoted_is_token_holds}
use Rattle.opa_words.proofs.piece_laws.quoted_is_token.Goals as goal

pub returns : goal.returns
returns c = quoted_is_token_holds
