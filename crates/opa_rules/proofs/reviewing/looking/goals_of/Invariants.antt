use Rattle.std.proofs.Common.{◌≡◌, take}
use Rattle.opa_rules.proofs.reviewing.looking.goals_of.Given as goal

abbrev pub invariant-loop-number : goal.invariant-loop-number
invariant-loop-number l = l.goals ≡ take l.number l.model.goals
