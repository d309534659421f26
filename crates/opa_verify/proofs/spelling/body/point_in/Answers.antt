use Rattle.std.proofs.Common.{subst}
use Rattle.opa_verify.specs.Spelling.Printed.{spot_text}
use Rattle.opa_verify.specs.Spelling.Spelling.{IsSpot, Reads}
use Rattle.opa_verify.proofs.spelling.Pointing.{no_spot}
use Rattle.opa_verify.proofs.spelling.body.point_in.Goals as goal

pub returns-in-None : goal.returns-in-None
returns-in-None c = no_spot c.args.front.now c.args.rest.now c.requires (subst (λ o. Reads IsSpot spot_text c.args.front.now o) c.in-None.is c.in_ok-spot_in.ensures)
