use Rattle.std.proofs.Common.{length}
use Rattle.opa_mean.specs.Given.{base_of}
use Rattle.opa_verify.specs.Support.Faults.{AreKept}
use Rattle.opa_verify.specs.Support.Ledgers.{told_listing}
use Rattle.opa_verify.proofs.support.Going.{Going}
use Rattle.opa_verify.proofs.support.faults.first_fault.Given as goal

abbrev pub invariant-loop-line : goal.invariant-loop-line
invariant-loop-line l = Going (base_of l.base) l.fn.lines l.rest l.place × AreKept (base_of l.base) (told_listing l.told) l.kept

abbrev pub decreases-loop-line : goal.decreases-loop-line
decreases-loop-line l = length l.rest
