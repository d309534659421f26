use Rattle.std.proofs.Common.{◌≡◌, length}
use Rattle.opa_date.specs.declared.TheConstants.{DAYS}
use Rattle.opa_line.specs.Pairs.{all_below}
use Rattle.opa_line.proofs.pairs.all_below.Given as goal

abbrev pub invariant-loop-rest : goal.invariant-loop-rest
invariant-loop-rest g l = all_below DAYS l.rest ≡ all_below DAYS l.fn.pairs

abbrev pub decreases-loop-rest : goal.decreases-loop-rest
decreases-loop-rest g l = length l.rest
