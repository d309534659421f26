use Rattle.std.proofs.Common.{◌≡◌, ◌++◌, take}
use Rattle.std.specs.Prelude.{flat_map}
use Rattle.opa_rules.specs.Reviewing.Operations.{operations, row_operations}
use Rattle.opa_rules.proofs.reviewing.operations.+walk.Given as goal

abbrev pub invariant-gather_all-loop-part : goal.invariant-gather_all-loop-part
invariant-gather_all-loop-part l = l.kinds ≡ l.initial.kinds ++ flat_map operations (take l.part-index l.parts)

abbrev pub invariant-gather_rows-loop-row : goal.invariant-gather_rows-loop-row
invariant-gather_rows-loop-row l = l.kinds ≡ l.initial.kinds ++ flat_map row_operations (take l.row-index l.rows)
