use Rattle.std.proofs.Common.{◌≡◌, ◌+◌, min, map, length}
use Rattle.opa_io.specs.declared.limits.TheConstants.{MOST_NODES}
use Rattle.opa_sentence.specs.declared.names.Member.{Member}
use Rattle.opa_sentence.specs.Measures.{nodes, total}
use Rattle.opa_parse.proofs.rules.inferred_nodes.Given as goal

abbrev pub invariant-loop-member : goal.invariant-loop-member
invariant-loop-member l = record {
  capped : min l.nodes (MOST_NODES + 1) ≡ l.nodes;
  sum : min (l.nodes + total (map (λ (m : Member). nodes m.expr) l.rest)) (MOST_NODES + 1) ≡ min (total (map (λ (m : Member). nodes m.expr) l.members)) (MOST_NODES + 1);
}

abbrev pub decreases-loop-member : goal.decreases-loop-member
decreases-loop-member l = length l.rest
