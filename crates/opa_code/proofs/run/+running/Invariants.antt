use Rattle.std.proofs.Common.{◌≤◌, ◌+◌, ◌*◌, [], length, take}
use Rattle.opa_code.specs.Keeping.{AreRight, IsEnd}
use Rattle.opa_code.specs.Steps.{Collected, HasPlace, Keeps}
use Rattle.opa_code.proofs.run.+running.Given as goal

abbrev pub decreases-run_among : goal.decreases-run_among
decreases-run_among g l = 16 * length l.nodes.now

abbrev pub decreases-run : goal.decreases-run
decreases-run g l = 16 * length l.nodes.now + 1

abbrev pub decreases-step : goal.decreases-step
decreases-step g l = 16 * length l.after.now + 15

abbrev pub decreases-over_line : goal.decreases-over_line
decreases-over_line g l = 16 * length l.after.now + 14

abbrev pub decreases-made_line : goal.decreases-made_line
decreases-made_line g l = 16 * length l.operand.now + 6

abbrev pub decreases-listed_line : goal.decreases-listed_line
decreases-listed_line g l = 16 * length l.operand.now + 5

abbrev pub decreases-first_item : goal.decreases-first_item
decreases-first_item g l = 16 * length l.operand.now + 4

abbrev pub decreases-gathered_line : goal.decreases-gathered_line
decreases-gathered_line g l = 16 * length l.operand.now + 4

abbrev pub decreases-add_item : goal.decreases-add_item
decreases-add_item g l = 16 * length l.operand.now + 3

-- the first names are collected, and the enclosing instances stand behind a first place
abbrev pub invariant-gathered_line-loop-name : goal.invariant-gathered_line-loop-name
invariant-gathered_line-loop-name g l = record {
  collected : Collected (g.K.Look.looks l.look) l.enclosing l.operand l.quant l.fn.gathering l.target (take l.name-index l.names) l.items;
  place : HasPlace l.enclosing l.inner.items;
  right : AreRight (g.K.Look.looks l.look) l.operand l.kept.lines.items;
}

-- the nodes that are left lead where all nodes lead, and stand at their end
abbrev pub invariant-run_among-loop-node : goal.invariant-run_among-loop-node
invariant-run_among-loop-node g l = record {
  keeps : Keeps (g.K.Look.looks l.look) l.enclosing [] l.fn.nodes l.stack.items l.rest;
  few : length l.rest ≤ length l.fn.nodes;
  ends : IsEnd l.fn.nodes l.rest;
  right : AreRight (g.K.Look.looks l.look) l.fn.nodes l.kept.lines.items;
}

abbrev pub decreases-run_among-loop-node : goal.decreases-run_among-loop-node
decreases-run_among-loop-node g l = length l.rest
