use Rattle.std.proofs.Common.{◌≡◌, ◌+◌, map, min, take}
use Rattle.opa_sentence.specs.Measures.{nodes, total}
use Rattle.opa_io.specs.declared.limits.TheConstants.{MOST_NODES}
use Rattle.opa_sentence.specs.Rows.{row_nodes}
use Rattle.opa_sentence.proofs.sizes.+wide.Given as goal

abbrev pub invariant-nodes_of_all-loop-part : goal.invariant-nodes_of_all-loop-part
invariant-nodes_of_all-loop-part l = l.count ≡ min (total (map nodes (take l.part-index l.parts))) (MOST_NODES + 1)

abbrev pub invariant-nodes_of_rows-loop-row : goal.invariant-nodes_of_rows-loop-row
invariant-nodes_of_rows-loop-row l = l.count ≡ min (total (map row_nodes (take l.row-index l.rows))) (MOST_NODES + 1)
