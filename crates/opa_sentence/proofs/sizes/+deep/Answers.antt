use Rattle.std.proofs.Common.{arith}
use Rattle.opa_tree.specs.Trees.{depth}
use Rattle.opa_tree.specs.Trees.{row_depth}
use Rattle.opa_sentence.proofs.SizeLaws.{deeper_more}
use Rattle.opa_sentence.proofs.sizes.+deep.Goals as goal

pub deepest_of-loop-part-preserved : goal.deepest_of-loop-part-preserved
deepest_of-loop-part-preserved t c = deeper_more depth c.args.parts.now c.loop-part.part-index c.part-item.result _ _ c.loop-part-test.true c.part-item.is c.loop-part.invariant (omega (arith, c.max-deepest.ensures, c.depth_of.ensures))

pub deepest_row-loop-row-preserved : goal.deepest_row-loop-row-preserved
deepest_row-loop-row-preserved t c = deeper_more row_depth c.args.rows.now c.loop-row.row-index c.row-item.result _ _ c.loop-row-test.true c.row-item.is c.loop-row.invariant (omega (arith, c.max-deepest.ensures, c.deeper.ensures, c.max.ensures, c.depth_of.ensures, c.depth_of-in-loop-row.ensures))
