use Rattle.std.proofs.Common.{◌≡◌, drop}
use Rattle.opa_case.specs.Cases.{list_of}
use Rattle.opa_mean.specs.Needs as need
use Rattle.opa_need.proofs.gap.first_unlisted.Given as goal

-- the first of those that are left is the first of all
abbrev pub invariant-loop-inst : goal.invariant-loop-inst
invariant-loop-inst g l =
    need.first_unlisted (list_of (g.H.Held.held l.held) l.rel) l.instances ≡ need.first_unlisted (list_of (g.H.Held.held l.held) l.rel) (drop l.inst-index l.instances)
