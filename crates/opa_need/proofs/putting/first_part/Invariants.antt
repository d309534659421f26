use Rattle.std.proofs.Common.{◌≡◌, length}
use Rattle.opa_need.specs.Steps.{parts_needs}
use Rattle.opa_need.proofs.putting.first_part.Given as goal

-- the parts that are left have the needs of all
abbrev pub invariant-loop-part : goal.invariant-loop-part
invariant-loop-part g l =
    parts_needs (g.H.Held.rules l.held) (g.H.Held.held l.held) l.parts l.enclosing l.day ≡ parts_needs (g.H.Held.rules l.held) (g.H.Held.held l.held) l.rest l.enclosing l.day

abbrev pub decreases-loop-part : goal.decreases-loop-part
decreases-loop-part g l = length l.rest
