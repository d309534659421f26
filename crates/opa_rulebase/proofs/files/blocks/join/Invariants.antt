use Rattle.std.proofs.Common.{◌≡◌, ◌++◌}
use Rattle.std.specs.Vec.Iter.{into_iter_items}
use Rattle.opa_rulebase.proofs.files.blocks.join.Given as goal

abbrev pub invariant-loop-block : goal.invariant-loop-block
invariant-loop-block l = l.blocks ++ into_iter_items l.block-iterator ≡ l.fn.blocks ++ l.fn.more.items
