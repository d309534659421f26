use Rattle.std.proofs.Common.{◌≡◌, ◌<◌, ◌++◌, length}
use Rattle.opa_window.specs.Runs.{runs, runs_of, shown}
use Rattle.opa_window.proofs.runs.runs_of.Given as goal

-- the runs so far and those that come are the window's
abbrev pub invariant-loop-rest : goal.invariant-loop-rest
invariant-loop-rest g l = record {
  before : l.day < l.to;
  all : shown l.out.items ++ runs l.value l.rest l.day l.to ≡ runs_of l.fn.pairs l.fn.from l.to;
}

abbrev pub decreases-loop-rest : goal.decreases-loop-rest
decreases-loop-rest g l = length l.rest
