use Rattle.std.proofs.Common.{subst}
use Rattle.opa_verify.specs.Spelling.Reading.{IsTold, told_of}
use Rattle.opa_verify.specs.Spelling.Spelling.{Reads}
use Rattle.opa_verify.proofs.spelling.Pointing.{no_told_point}
use Rattle.opa_verify.proofs.spelling.body.told_point.Goals as goal

pub returns-in-None : goal.returns-in-None
returns-in-None c = no_told_point c.args.spot c.args.first c.args.last c.args.text.now c.requires.spot (subst (λ o. Reads IsTold told_of c.args.text.now o) c.in-None.is c.in_ok-told_in.ensures)
