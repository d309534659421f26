use Rattle.opa_verify.proofs.spelling.Telling.{no_blank_told}
use Rattle.opa_verify.proofs.spelling.told.told_at.Goals as goal

pub returns-in-None : goal.returns-in-None
returns-in-None c = no_blank_told c.args.shown.now c.args.rest.now c.requires c.in-None.ensures
