use Rattle.std.proofs.Common.{◌≡◌, ◌++◌, length}
use Rattle.std.specs.String.{string_bytes}
use Rattle.opa_rulebase.specs.Printed.{circle_lines}
use Rattle.opa_rulebase.proofs.printed.circle_lines.Given as goal

abbrev pub invariant-loop-phrase : goal.invariant-loop-phrase
invariant-loop-phrase l = string_bytes l.out ++ circle_lines l.rest ≡ circle_lines l.phrases

abbrev pub decreases-loop-phrase : goal.decreases-loop-phrase
decreases-loop-phrase l = length l.rest
