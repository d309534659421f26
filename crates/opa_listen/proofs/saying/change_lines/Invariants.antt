use Rattle.std.proofs.Common.{◌≡◌, ◌++◌, length}
use Rattle.std.specs.String.{string_bytes}
use Rattle.opa_listen.specs.Words.{change_lines}
use Rattle.opa_listen.proofs.saying.change_lines.Given as goal

abbrev pub invariant-loop-change : goal.invariant-loop-change
invariant-loop-change l = string_bytes l.out ++ change_lines l.rest ≡ change_lines l.kept

abbrev pub decreases-loop-change : goal.decreases-loop-change
decreases-loop-change l = length l.rest
