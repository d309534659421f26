use Rattle.std.proofs.Common.{take}
use Rattle.opa_code.specs.Keeping.{AreSpots}
use Rattle.opa_code.proofs.kept.are_spots.Given as goal

abbrev pub invariant-loop-spot : goal.invariant-loop-spot
invariant-loop-spot g l = AreSpots (g.K.Look.looks l.look) l.enclosing (take l.spot-index l.spots)
