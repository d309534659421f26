use Rattle.std.proofs.Common.{◌≤◌, length, map, take, drop}
use Rattle.opa_date.specs.declared.TheConstants.{DAYS}
use Rattle.opa_line.specs.Lines.{StandsFor}
use Rattle.opa_verify.specs.Listed.Keeping.{Keeps}
use Rattle.opa_verify.specs.Listed.Shades.{Shading, table_shade}
use Rattle.opa_verify.specs.Listed.Walks.{tree_shades, item_shades_at, row_shading}
use Rattle.opa_verify.proofs.listed.Walking.{AreShades}
use Rattle.opa_verify.proofs.listed.walk.+down.Given as goal

-- the lines so far
abbrev pub invariant-shade_items-loop-name : goal.invariant-shade_items-loop-name
invariant-shade_items-loop-name g l = Keeps (g.K.Sheet.shape l.sheet) (g.K.Sheet.listing l.sheet) l.initial.kept.items l.kept.items (AreShades l.items.items (item_shades_at (g.K.Sheet.shape l.sheet) (g.K.Sheet.listing l.sheet) l.quant l.target (take l.name-index l.names) l.trees l.enclosing))

abbrev pub invariant-shade_lines-loop-tree : goal.invariant-shade_lines-loop-tree
invariant-shade_lines-loop-tree g l = Keeps (g.K.Sheet.shape l.sheet) (g.K.Sheet.listing l.sheet) l.initial.kept.items l.kept.items (AreShades l.lines.items (tree_shades (g.K.Sheet.shape l.sheet) (g.K.Sheet.listing l.sheet) (take l.tree-index l.trees) l.enclosing))

-- the rows from a place on, before what stands behind them
abbrev pub invariant-shade_rows-loop-place : goal.invariant-shade_rows-loop-place
invariant-shade_rows-loop-place g l =
    (l.place ≤ length l.rows)
    × Keeps (g.K.Sheet.shape l.sheet) (g.K.Sheet.listing l.sheet) l.initial.kept.items l.kept.items ((last : Shading) → StandsFor DAYS (last l.enclosing) l.behind → StandsFor DAYS (table_shade (map (row_shading (g.K.Sheet.shape l.sheet) (g.K.Sheet.listing l.sheet)) (drop l.place l.rows)) last l.enclosing) l.line)

abbrev pub decreases-shade_rows-loop-place : goal.decreases-shade_rows-loop-place
decreases-shade_rows-loop-place g l = l.place
