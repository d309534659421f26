use Rattle.std.proofs.Common.{◌≡◌, ◌+◌, map, min, take}
use Rattle.opa_tree.specs.Trees.{depth, highest}
use Rattle.opa_io.specs.declared.limits.TheConstants.{MOST_DEPTH}
use Rattle.opa_tree.specs.Trees.{row_depth}
use Rattle.opa_sentence.proofs.sizes.+deep.Given as goal

abbrev pub invariant-deepest_of-loop-part : goal.invariant-deepest_of-loop-part
invariant-deepest_of-loop-part l = l.deepest ≡ min (highest (map depth (take l.part-index l.parts))) (MOST_DEPTH + 1)

abbrev pub invariant-deepest_row-loop-row : goal.invariant-deepest_row-loop-row
invariant-deepest_row-loop-row l = l.deepest ≡ min (highest (map row_depth (take l.row-index l.rows))) (MOST_DEPTH + 1)
