use Rattle.std.proofs.Common.{subst}
use Rattle.opa_verify.specs.Spelling.Spelling.{CanBePhrase, Reads}
use Rattle.opa_verify.proofs.spelling.Spotted.{no_phrase}
use Rattle.opa_verify.proofs.spelling.spots.both_in.Goals as goal

pub returns-in-None : goal.returns-in-None
returns-in-None c = no_phrase c.args.front.now c.args.phrase.now c.args.name.now c.requires.front c.requires.name c.requires.phrase (subst (λ o. Reads CanBePhrase (λ t. t) c.args.phrase.now o) c.in-None.is c.in_ok-phrase_in.ensures)
