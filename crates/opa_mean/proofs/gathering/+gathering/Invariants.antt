use Rattle.std.proofs.Common.{take}
use Rattle.opa_case.specs.Shapes.{shape_of}
use Rattle.opa_mean.specs.Gathering.{Gathers}
use Rattle.opa_mean.specs.Reads.{trees_reads, rows_reads}
use Rattle.opa_mean.proofs.Gathered.{AreListed}
use Rattle.opa_mean.proofs.gathering.+gathering.Given as goal

abbrev pub invariant-gather_all-loop-tree : goal.invariant-gather_all-loop-tree
invariant-gather_all-loop-tree g l = Gathers (trees_reads (shape_of l.model) (g.K.Look.looks l.look).members (g.K.Look.looks l.look).container (take l.tree-index l.trees)) l.enclosing l.passed l.initial.found l.found

abbrev pub invariant-gather_listed-loop-name : goal.invariant-gather_listed-loop-name
invariant-gather_listed-loop-name g l = AreListed (shape_of l.model) (g.K.Look.looks l.look).members (g.K.Look.looks l.look).container l.target l.trees l.enclosing (take l.name-index l.names) l.initial.found l.found l.last

abbrev pub invariant-gather_rows-loop-row : goal.invariant-gather_rows-loop-row
invariant-gather_rows-loop-row g l = Gathers (rows_reads (shape_of l.model) (g.K.Look.looks l.look).members (g.K.Look.looks l.look).container (take l.row-index l.rows)) l.enclosing l.passed l.initial.found l.found
