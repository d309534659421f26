use Rattle.std.specs.Prelude.{take, true}
use Rattle.opa_case.specs.Listed.{SetsNames}
use Rattle.opa_case.proofs.index.add_names.Given as goal

abbrev pub invariant-loop-at : goal.invariant-loop-at
invariant-loop-at l = SetsNames true l.fn.index.entries l.index.entries l.number (take l.at l.names) l.inst
