use Rattle.std.proofs.Common.{length}
use Rattle.opa_date.specs.declared.TheConstants.{DAYS}
use Rattle.opa_line.proofs.Mapping.{Mapped}
use Rattle.opa_line.proofs.combine.mapped.Given as goal

abbrev pub invariant-loop-rest : goal.invariant-loop-rest
invariant-loop-rest g l = Mapped g.F.Fn l.f DAYS l.fn.line l.value l.rest l.out

abbrev pub decreases-loop-rest : goal.decreases-loop-rest
decreases-loop-rest g l = length l.rest
