use Rattle.std.proofs.Common.{◌≡◌}
use Rattle.opa_case.specs.Cases.{list_of}
use Rattle.opa_case.specs.Shapes.{shape_of}
use Rattle.opa_mean.specs.Needs as need
use Rattle.opa_need.proofs.gap.gap.Given as goal

-- what keeps the entity that is left, within the steps that are left, keeps all
abbrev pub invariant-loop-steps : goal.invariant-loop-steps
invariant-loop-steps g l =
    need.gap_by (shape_of (g.H.Held.rules l.held).model) (list_of (g.H.Held.held l.held)) l.initial.steps l.initial.entity
    ≡ need.gap_by (shape_of (g.H.Held.rules l.held).model) (list_of (g.H.Held.held l.held)) l.steps l.entity

abbrev pub decreases-loop-steps : goal.decreases-loop-steps
decreases-loop-steps g l = l.steps
