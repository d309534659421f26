use Rattle.std.specs.Prelude.{take, false}
use Rattle.opa_case.specs.Listed.{SetsNames}
use Rattle.opa_case.proofs.index.drop_names.Given as goal

abbrev pub invariant-loop-name : goal.invariant-loop-name
invariant-loop-name l = SetsNames false l.fn.index.entries l.index.entries l.number (take l.name-index l.names) l.inst
