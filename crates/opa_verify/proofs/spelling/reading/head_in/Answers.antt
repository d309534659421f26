use Rattle.std.proofs.Common.{subst}
use Rattle.opa_verify.specs.Spelling.Printed.{spot_text}
use Rattle.opa_verify.specs.Spelling.Spelling.{IsSpot, Reads}
use Rattle.opa_verify.proofs.spelling.Heading.{no_asked, no_dated, no_asked_spot}
use Rattle.opa_verify.proofs.spelling.reading.head_in.Goals as goal

pub returns-in-None : goal.returns-in-None
returns-in-None c = no_asked c.args.line.now c.in-None.ensures

pub returns-in-None-dated_in : goal.returns-in-None-dated_in
returns-in-None-dated_in c = no_dated c.args.line.now c.in-Some.asked.now c.in-Some.ensures c.in-None-dated_in.ensures

pub returns-in-None-2 : goal.returns-in-None-2
returns-in-None-2 c = no_asked_spot c.args.line.now c.in-Some.asked.now c.in-Some-dated_in.point.now c.in-Some-dated_in.day c.in-Some.ensures c.in-Some-dated_in.ensures (subst (λ o. Reads IsSpot spot_text c.in-Some-dated_in.point.now o) c.in-None-2.is c.in_ok-spot_in-in-Some-dated_in.ensures)
