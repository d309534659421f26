use Rattle.std.proofs.Common.{◌≡◌, ◌∷◌, ◌++◌, take}
use Rattle.std.specs.Prelude.{flat_map}
use Rattle.opa_cells.specs.Instances.{named}
use Rattle.opa_case.specs.Shapes.{shape_of}
use Rattle.opa_mean.specs.Reads.{trees_reads, rows_reads}
use Rattle.opa_mean.proofs.read.+walk.Given as goal

abbrev pub invariant-gather_all-loop-tree : goal.invariant-gather_all-loop-tree
invariant-gather_all-loop-tree g l = l.found ≡ l.initial.found ++ trees_reads (shape_of l.model) (g.K.Look.looks l.look).members (g.K.Look.looks l.look).container (take l.tree-index l.trees) l.enclosing

abbrev pub invariant-gather_listed-loop-name : goal.invariant-gather_listed-loop-name
invariant-gather_listed-loop-name g l = l.found ≡ l.initial.found ++ flat_map (λ n. trees_reads (shape_of l.model) (g.K.Look.looks l.look).members (g.K.Look.looks l.look).container l.trees (named l.target n ∷ l.enclosing)) (take l.name-index l.names)

abbrev pub invariant-gather_rows-loop-row : goal.invariant-gather_rows-loop-row
invariant-gather_rows-loop-row g l = l.found ≡ l.initial.found ++ rows_reads (shape_of l.model) (g.K.Look.looks l.look).members (g.K.Look.looks l.look).container (take l.row-index l.rows) l.enclosing
