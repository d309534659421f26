use Rattle.opa_verify.proofs.spelling.Telling.{uncut_told, other_mark_told}
use Rattle.opa_verify.proofs.spelling.told.told_in.Goals as goal

pub returns-in-None : goal.returns-in-None
returns-in-None c = uncut_told c.args.text.now c.in-None.ensures

pub returns-then-mark-ne44 : goal.returns-then-mark-ne44
returns-then-mark-ne44 c = other_mark_told c.args.text.now c.in-Some.shown.now c.in-Some.rest.now c.in-Some.mark c.in-Some.ensures c.if-mark-ne44.true
