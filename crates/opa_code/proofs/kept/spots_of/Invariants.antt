use Rattle.std.proofs.Common.{take}
use Rattle.opa_code.specs.Keeping.{AreNoted}
use Rattle.opa_code.proofs.kept.spots_of.Given as goal

abbrev pub invariant-loop-owner : goal.invariant-loop-owner
invariant-loop-owner g l = AreNoted (g.K.Look.looks l.look) l.enclosing (take l.owner-index l.owners) l.spots
