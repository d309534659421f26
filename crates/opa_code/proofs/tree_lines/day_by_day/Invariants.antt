use Rattle.std.proofs.Common.{◌-◌}
use Rattle.opa_date.specs.declared.TheConstants.{DAYS}
use Rattle.opa_mean.proofs.Building.{Built}
use Rattle.opa_code.specs.Fresh.{fresh_value}
use Rattle.opa_code.proofs.tree_lines.day_by_day.Given as goal

abbrev pub invariant-loop-day : goal.invariant-loop-day
invariant-loop-day g l = Built (fresh_value (g.H.Held.rules l.held) (g.H.Held.held l.held) l.tree l.enclosing) l.day l.builder

abbrev pub decreases-loop-day : goal.decreases-loop-day
decreases-loop-day g l = DAYS - l.day
