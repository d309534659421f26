use Rattle.opa_verify.proofs.spelling.Pointing.{uncut_line}
use Rattle.opa_verify.proofs.spelling.body.line_in.Goals as goal

pub returns-in-None : goal.returns-in-None
returns-in-None c = uncut_line c.args.text.now c.in-None.ensures
