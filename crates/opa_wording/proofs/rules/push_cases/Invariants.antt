use Rattle.std.proofs.Common.{◌≡◌, ◌++◌, length}
use Rattle.std.specs.String.{string_bytes}
use Rattle.opa_wording.specs.Rules.{cases}
use Rattle.opa_wording.proofs.rules.push_cases.Given as goal

abbrev pub invariant-loop-row : goal.invariant-loop-row
invariant-loop-row l = string_bytes l.out ++ cases l.model l.rest ≡ string_bytes l.initial.out ++ cases l.model l.rows

abbrev pub decreases-loop-row : goal.decreases-loop-row
decreases-loop-row l = length l.rest
