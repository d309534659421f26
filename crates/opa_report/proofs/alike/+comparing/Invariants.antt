use Rattle.std.proofs.Common.{take}
use Rattle.opa_report.specs.Keeping.{AgreeEach, AgreeRows}
use Rattle.opa_report.proofs.alike.+comparing.Given as goal

abbrev pub invariant-are_alike-loop-tree : goal.invariant-are_alike-loop-tree
invariant-are_alike-loop-tree g l = AgreeEach (g.S.Sight.shape l.sight) (g.S.Sight.look l.sight) l.hidden l.here l.there (take l.tree-index l.trees)

abbrev pub invariant-rows_alike-loop-row : goal.invariant-rows_alike-loop-row
invariant-rows_alike-loop-row g l = AgreeRows (g.S.Sight.shape l.sight) (g.S.Sight.look l.sight) l.hidden l.here l.there (take l.row-index l.rows)
