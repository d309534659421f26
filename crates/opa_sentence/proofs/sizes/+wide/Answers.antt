use Rattle.std.proofs.Common.{arith}
use Rattle.opa_sentence.specs.Measures.{nodes}
use Rattle.opa_sentence.specs.Rows.{row_nodes}
use Rattle.opa_sentence.proofs.SizeLaws.{wider_more}
use Rattle.opa_sentence.proofs.sizes.+wide.Goals as goal

pub nodes_of_all-loop-part-preserved : goal.nodes_of_all-loop-part-preserved
nodes_of_all-loop-part-preserved t c = wider_more nodes c.args.parts.now c.loop-part.part-index c.part-item.result _ _ c.loop-part-test.true c.part-item.is c.loop-part.invariant (omega (arith, c.added-count.ensures, c.nodes_of.ensures))

pub nodes_of_rows-loop-row-preserved : goal.nodes_of_rows-loop-row-preserved
nodes_of_rows-loop-row-preserved t c = wider_more row_nodes c.args.rows.now c.loop-row.row-index c.row-item.result _ _ c.loop-row-test.true c.row-item.is c.loop-row.invariant (omega (arith, c.added-count.ensures, c.added.ensures, c.added-in-loop-row.ensures, c.nodes_of.ensures, c.nodes_of-in-loop-row.ensures))
