use Rattle.std.proofs.Common.{subst}
use Rattle.opa_text.specs.Points.{names_text}
use Rattle.opa_verify.specs.Spelling.Printed.{spot_text}
use Rattle.opa_verify.specs.Spelling.Spelling.{AreNames, IsSpot, Reads}
use Rattle.opa_verify.proofs.spelling.Pointing.{no_members_spot, no_members_names}
use Rattle.opa_verify.proofs.spelling.body.members_in.Goals as goal

pub returns-in-None : goal.returns-in-None
returns-in-None c = no_members_spot c.args.front.now c.args.spot.now c.args.text.now c.requires.calm c.requires.spot (subst (λ o. Reads IsSpot spot_text c.args.spot.now o) c.in-None.is c.in_ok-spot_in.ensures)

pub returns-in-None-2 : goal.returns-in-None-2
returns-in-None-2 c = no_members_names c.args.front.now c.args.spot.now c.args.text.now c.requires.calm c.requires.spot (subst (λ o. Reads AreNames names_text c.args.text.now o) c.in-None-2.is c.in_ok-names_in-in-Some.ensures)
