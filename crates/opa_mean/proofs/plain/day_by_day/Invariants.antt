use Rattle.std.proofs.Common.{◌-◌}
use Rattle.opa_date.specs.declared.TheConstants.{DAYS}
use Rattle.opa_case.specs.Shapes.{shape_of}
use Rattle.opa_mean.specs.Mean.{fitted}
use Rattle.opa_mean.specs.Meaning.{value}
use Rattle.opa_mean.proofs.Building.{Built}
use Rattle.opa_mean.proofs.plain.day_by_day.Given as goal

abbrev pub invariant-loop-day : goal.invariant-loop-day
invariant-loop-day g l = Built (λ d. fitted (shape_of l.model) l.attr (value (shape_of l.model) (g.K.Look.looks l.look) l.tree l.enclosing d)) l.day l.builder

abbrev pub decreases-loop-day : goal.decreases-loop-day
decreases-loop-day g l = DAYS - l.day
