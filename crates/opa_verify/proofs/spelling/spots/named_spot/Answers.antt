use Rattle.opa_verify.proofs.spelling.Spotted.{no_of}
use Rattle.opa_verify.proofs.spelling.spots.named_spot.Goals as goal

pub returns-in-None : goal.returns-in-None
returns-in-None c = no_of c.args.front.now c.args.name.now c.requires.front c.requires.name c.in-None.ensures
