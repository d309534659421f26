use Rattle.opa_verify.proofs.spelling.Pointing.{neither_listed}
use Rattle.opa_verify.proofs.spelling.body.unlisted_by.Goals as goal

pub returns-in-None : goal.returns-in-None
returns-in-None c = neither_listed c.args.front.now c.args.text.now c.requires.calm c.requires.none c.in-None.ensures
