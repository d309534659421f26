use Rattle.std.proofs.Common.{take}
use Rattle.opa_verify.specs.Listed.Keeping.{AgreeEach, AgreeRows}
use Rattle.opa_verify.proofs.listed.alike.+comparing.Given as goal

abbrev pub invariant-are_alike-loop-tree : goal.invariant-are_alike-loop-tree
invariant-are_alike-loop-tree g l = AgreeEach (g.K.Sheet.shape l.sheet) (g.K.Sheet.listing l.sheet) l.hidden l.here l.there (take l.tree-index l.trees)

abbrev pub invariant-rows_alike-loop-row : goal.invariant-rows_alike-loop-row
invariant-rows_alike-loop-row g l = AgreeRows (g.K.Sheet.shape l.sheet) (g.K.Sheet.listing l.sheet) l.hidden l.here l.there (take l.row-index l.rows)
