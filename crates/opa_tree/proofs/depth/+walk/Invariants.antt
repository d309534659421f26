use Rattle.std.proofs.Common.{◌≡◌, ◌+◌, ◌*◌, nat_le, map, length}
use Rattle.opa_tree.specs.Trees.{depth, row_depth, highest}
use Rattle.opa_tree.proofs.depth.+walk.Given as goal

abbrev pub invariant-all_within-loop-part : goal.invariant-all_within-loop-part
invariant-all_within-loop-part l = nat_le (highest (map depth l.parts)) l.levels ≡ nat_le (highest (map depth l.rest)) l.levels

abbrev pub invariant-rows_within-loop-row : goal.invariant-rows_within-loop-row
invariant-rows_within-loop-row l = nat_le (highest (map row_depth l.rows)) l.levels ≡ nat_le (highest (map row_depth l.rest)) l.levels

abbrev pub decreases-all_within-loop-part : goal.decreases-all_within-loop-part
decreases-all_within-loop-part l = length l.rest

abbrev pub decreases-rows_within-loop-row : goal.decreases-rows_within-loop-row
decreases-rows_within-loop-row l = length l.rest

abbrev pub decreases-is_within : goal.decreases-is_within
decreases-is_within l = 2 * l.levels

abbrev pub decreases-is_row_within : goal.decreases-is_row_within
decreases-is_row_within l = 2 * l.levels

abbrev pub decreases-all_within : goal.decreases-all_within
decreases-all_within l = 2 * l.levels + 1

abbrev pub decreases-rows_within : goal.decreases-rows_within
decreases-rows_within l = 2 * l.levels + 1
