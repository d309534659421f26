use Rattle.std.proofs.Common.{◌≡◌, ◌∷◌, ◌-◌, ◌≤◌, map, take, drop, max}
use Rattle.opa_case.specs.Shapes.{shape_of}
use Rattle.opa_cells.specs.Instances.{named}
use Rattle.opa_window.specs.Days.{over_days}
use Rattle.opa_mean.specs.Meaning.{Meaning, value, each, item, table, row_meaning}
use Rattle.opa_mean.proofs.evaluate.+down.Given as goal

-- the values so far
abbrev pub invariant-evaluate_days-loop-day : goal.invariant-evaluate_days-loop-day
invariant-evaluate_days-loop-day g l =
    (l.values.items ≡ over_days (value (shape_of l.model) (g.K.Look.looks l.look) l.tree l.enclosing) l.span.0 l.day) × (l.span.0 ≤ l.day) × (l.day ≤ max l.span.0 l.span.1)

abbrev pub decreases-evaluate_days-loop-day : goal.decreases-evaluate_days-loop-day
decreases-evaluate_days-loop-day g l = l.span.1 - l.day

abbrev pub invariant-evaluate_each-loop-tree : goal.invariant-evaluate_each-loop-tree
invariant-evaluate_each-loop-tree g l = l.values.items ≡ map (λ e. value (shape_of l.model) (g.K.Look.looks l.look) e l.enclosing l.day) (take l.tree-index l.trees)

abbrev pub invariant-evaluate_items-loop-name : goal.invariant-evaluate_items-loop-name
invariant-evaluate_items-loop-name g l = l.items.items ≡ map (λ n. item l.quant (each (map (value (shape_of l.model) (g.K.Look.looks l.look)) l.trees) (named l.target n ∷ l.enclosing) l.day)) (take l.name-index l.names)

-- the rows that are left give the table's value
abbrev pub invariant-evaluate_rows-loop-row : goal.invariant-evaluate_rows-loop-row
invariant-evaluate_rows-loop-row g l =
    (last : Meaning) → table (map (row_meaning (shape_of l.model) (g.K.Look.looks l.look)) l.rows) last l.enclosing l.day
    ≡ table (map (row_meaning (shape_of l.model) (g.K.Look.looks l.look)) (drop l.row-index l.rows)) last l.enclosing l.day
