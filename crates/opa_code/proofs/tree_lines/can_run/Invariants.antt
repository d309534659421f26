use Rattle.std.proofs.Common.{◌≡◌, true, take}
use Rattle.std.specs.List.{list_all}
use Rattle.opa_code.specs.Runnable.{can_run}
use Rattle.opa_code.proofs.tree_lines.can_run.Given as goal

abbrev pub invariant-loop-node : goal.invariant-loop-node
invariant-loop-node l = list_all can_run (take l.node-index l.nodes) ≡ true
