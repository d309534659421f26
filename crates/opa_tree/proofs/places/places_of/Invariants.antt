use Rattle.std.proofs.Common.{take}
use Rattle.opa_tree.specs.Places.{ArePlaces}
use Rattle.opa_tree.proofs.places.places_of.Given as goal

abbrev pub invariant-loop-place : goal.invariant-loop-place
invariant-loop-place l = ArePlaces (take l.place l.rules) l.places.items
