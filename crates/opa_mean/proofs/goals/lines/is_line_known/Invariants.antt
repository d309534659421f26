use Rattle.std.proofs.Common.{◌≡◌, drop}
use Rattle.opa_mean.specs.Goals.Stretches.{is_line_known}
use Rattle.opa_mean.proofs.goals.lines.is_line_known.Given as goal

-- the pairs before are known
abbrev pub invariant-loop-pair : goal.invariant-loop-pair
invariant-loop-pair l = is_line_known l.line ≡ is_line_known (drop l.pair-index l.pair-items)
