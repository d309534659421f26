use Rattle.std.proofs.Common.{◌≡◌, ◌≤◌, ◌++◌, ◌∷◌, [], List, length, drop, map, reverse, replicate}
use Rattle.std.specs.Prelude.{flat_map}
use Rattle.opa_case.specs.Shapes.{shape_of}
use Rattle.opa_code.specs.Codes.{code, row_code, leaving, chosen_rows}
use Rattle.opa_code.specs.declared.node.Node.{Node}
use Rattle.opa_code.specs.declared.node.Node.TheVariants as node
use Rattle.opa_code.proofs.gather.+walk.Given as goal

abbrev pub invariant-gather_all-loop-left : goal.invariant-gather_all-loop-left
invariant-gather_all-loop-left l = (reverse l.nodes ≡ flat_map (code (shape_of l.model)) (drop l.left l.trees) ++ reverse l.initial.nodes) × (l.left ≤ length l.trees)

abbrev pub decreases-gather_all-loop-left : goal.decreases-gather_all-loop-left
decreases-gather_all-loop-left l = l.left

abbrev pub invariant-gather_leaving-loop-left : goal.invariant-gather_leaving-loop-left
invariant-gather_leaving-loop-left l =
    ((n : Node) (below : List Node) → length below ≡ l.behind → reverse l.initial.nodes ≡ n ∷ below → reverse l.nodes ≡ leaving l.how l.left (map (code (shape_of l.model)) (drop l.left l.trees)) (n ∷ []) ++ below) × (l.left ≤ length l.trees)

abbrev pub decreases-gather_leaving-loop-left : goal.decreases-gather_leaving-loop-left
decreases-gather_leaving-loop-left l = l.left

abbrev pub invariant-gather_rows-loop-left : goal.invariant-gather_rows-loop-left
invariant-gather_rows-loop-left l =
    ((last below : List Node) → length below ≡ l.behind → reverse l.initial.nodes ≡ last ++ (replicate (length l.rows) node.Choose ++ below)
    → reverse l.nodes ≡ chosen_rows (map (row_code (shape_of l.model)) (drop l.left l.rows)) last ++ (replicate l.left node.Choose ++ below)) × (l.left ≤ length l.rows)

abbrev pub decreases-gather_rows-loop-left : goal.decreases-gather_rows-loop-left
decreases-gather_rows-loop-left l = l.left
