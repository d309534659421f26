use Rattle.std.proofs.Common.{◌≡◌, take}
use Rattle.opa_need.specs.Alike.{AgreeEach, AgreeRows}
use Rattle.opa_need.proofs.alike.+comparing.Given as goal

abbrev pub invariant-are_alike-loop-tree : goal.invariant-are_alike-loop-tree
invariant-are_alike-loop-tree g l = (l.hidden ≡ l.initial.hidden) × AgreeEach (g.H.Held.rules l.held) (g.H.Held.held l.held) l.initial.hidden l.here l.there (take l.tree-index l.trees)

abbrev pub invariant-rows_alike-loop-row : goal.invariant-rows_alike-loop-row
invariant-rows_alike-loop-row g l = (l.hidden ≡ l.initial.hidden) × AgreeRows (g.H.Held.rules l.held) (g.H.Held.held l.held) l.initial.hidden l.here l.there (take l.row-index l.rows)
