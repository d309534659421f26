use Rattle.std.proofs.Common.{◌≡◌, length}
use Rattle.opa_line.specs.Pairs.{rises_from}
use Rattle.opa_line.proofs.pairs.rises_from.Given as goal

abbrev pub invariant-loop-rest : goal.invariant-loop-rest
invariant-loop-rest g l = rises_from l.day l.rest ≡ rises_from l.from l.fn.pairs

abbrev pub decreases-loop-rest : goal.decreases-loop-rest
decreases-loop-rest g l = length l.rest
