use Rattle.std.proofs.Common.{take}
use Rattle.opa_case.specs.Shapes.{shape_of}
use Rattle.opa_mean.specs.Gathering.{AreAlike}
use Rattle.opa_mean.specs.Reads.{trees_reads, rows_reads}
use Rattle.opa_mean.proofs.alike.+comparing.Given as goal

abbrev pub invariant-all_are_alike-loop-tree : goal.invariant-all_are_alike-loop-tree
invariant-all_are_alike-loop-tree g l = AreAlike (g.K.Look.looks l.look).container (trees_reads (shape_of l.model) (g.K.Look.looks l.look).members (g.K.Look.looks l.look).container (take l.tree-index l.trees)) l.bound l.first l.second

abbrev pub invariant-rows_are_alike-loop-row : goal.invariant-rows_are_alike-loop-row
invariant-rows_are_alike-loop-row g l = AreAlike (g.K.Look.looks l.look).container (rows_reads (shape_of l.model) (g.K.Look.looks l.look).members (g.K.Look.looks l.look).container (take l.row-index l.rows)) l.bound l.first l.second
