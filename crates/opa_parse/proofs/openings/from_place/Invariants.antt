use Rattle.std.proofs.Common.{◌≡◌, ◌+◌, drop}
use Rattle.opa_parse.specs.Openings.{from_place}
use Rattle.opa_parse.proofs.openings.from_place.Given as goal

abbrev pub invariant-loop-place : goal.invariant-loop-place
invariant-loop-place l = from_place l.text l.tokens ≡ from_place l.text (drop l.place l.tokens) + l.place
