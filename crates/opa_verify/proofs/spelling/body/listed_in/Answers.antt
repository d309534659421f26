use Rattle.opa_verify.proofs.spelling.Pointing.{no_blank_listed}
use Rattle.opa_verify.proofs.spelling.body.listed_in.Goals as goal

pub returns-in-None : goal.returns-in-None
returns-in-None c = no_blank_listed c.args.front.now c.args.rest.now c.requires c.in-None.ensures
