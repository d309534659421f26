use Rattle.std.proofs.Common.{◌≤◌, ◌-◌}
use Rattle.opa_date.specs.declared.TheConstants.{DAYS}
use Rattle.opa_need.specs.Steps.{IsKnownOn}
use Rattle.opa_need.proofs.stays.open_on.Given as goal

abbrev pub invariant-loop-from : goal.invariant-loop-from
invariant-loop-from l = (l.day ≤ l.from) × (l.from ≤ DAYS) × IsKnownOn l.line l.day l.from

abbrev pub decreases-loop-from : goal.decreases-loop-from
decreases-loop-from l = DAYS - l.from
