use Rattle.std.proofs.Common.{subst}
use Rattle.opa_words.specs.Kinds.{quoted}
use Rattle.opa_verify.specs.Spelling.Spelling.{IsName, Reads}
use Rattle.opa_verify.proofs.spelling.Spotted.{no_name}
use Rattle.opa_verify.proofs.spelling.spots.with_name.Goals as goal

pub returns-in-None : goal.returns-in-None
returns-in-None c = no_name c.args.front.now c.args.name.now c.requires.front c.requires.name (subst (λ o. Reads IsName quoted c.args.name.now o) c.in-None.is c.in_ok-name_in.ensures)
