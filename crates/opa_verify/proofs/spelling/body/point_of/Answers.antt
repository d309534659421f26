use Rattle.std.proofs.Common.{◌∷◌, ◌++◌}
use Rattle.opa_verify.specs.Spelling.Printed.{printed_text, spot_text, placed_text, days_text}
use Rattle.opa_verify.specs.Spelling.Spelling.{CanBePrinted}
use Rattle.opa_verify.proofs.spelling.Telling.{reads_at}
use Rattle.opa_verify.proofs.spelling.Pointing.{no_days, placed_is}
use Rattle.opa_verify.proofs.spelling.body.point_of.Goals as goal

pub returns-in-None : goal.returns-in-None
returns-in-None c = no_days c.args.spot c.args.rest.now c.requires c.in-None.ensures

pub returns-in_ok-found-in-Some : goal.returns-in_ok-found-in-Some
returns-in_ok-found-in-Some c =
    reads_at CanBePrinted printed_text (placed_text c.args.spot (days_text c.in-Some.first c.in-Some.last) c.in-Some.told.now) (spot_text c.args.spot ++ 44 ∷ c.args.rest.now) c.in_ok-found-in-Some.found
    (placed_is c.args.spot c.args.rest.now c.in-Some.told.now c.in-Some.first c.in-Some.last c.in-Some.ensures) c.in_ok-found-in-Some.ensures
