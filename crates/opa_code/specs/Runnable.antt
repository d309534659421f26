-- Nodes that can be run.
use Rattle.std.specs.Prelude.{Bool, true, nat_le, IsTrue, List}
use Rattle.std.specs.List.{list_all}
use Rattle.opa_code.specs.declared.node.Node.{Node}
use Rattle.opa_code.specs.declared.node.Node.TheVariants as node
use Rattle.opa_io.specs.declared.limits.TheConstants.{MOST_DAYS}

-- a node over the last days looks back over a hundred years at most
abbrev pub can_run : Node → Bool
can_run (node.Rolling b n) = nat_le n MOST_DAYS
can_run _ = true

-- all nodes can be run
abbrev pub CanRun : List Node → Type 0
CanRun ns = IsTrue (list_all can_run ns)
