use Rattle.std.proofs.Common.{◌≡◌, drop}
use Rattle.opa_verify.specs.Listed.Ways.{place_seen}
use Rattle.opa_verify.proofs.listed.places.place_by.Given as goal

-- the place among those that are left is the place
abbrev pub invariant-loop-inst : goal.invariant-loop-inst
invariant-loop-inst g l = place_seen (g.K.Containers.containers l.listed) (drop l.inst-index l.enclosing) l.entity ≡ place_seen (g.K.Containers.containers l.listed) l.enclosing l.entity
