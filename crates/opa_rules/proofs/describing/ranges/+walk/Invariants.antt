use Rattle.std.proofs.Common.{◌≡◌, ◌++◌, take}
use Rattle.std.specs.Prelude.{flat_map}
use Rattle.opa_rules.specs.Describing.Ranges.{ranged, row_ranged}
use Rattle.opa_rules.proofs.describing.ranges.+walk.Given as goal

abbrev pub invariant-gather_all-loop-part : goal.invariant-gather_all-loop-part
invariant-gather_all-loop-part l = l.rels ≡ l.initial.rels ++ flat_map ranged (take l.part-index l.parts)

abbrev pub invariant-gather_rows-loop-row : goal.invariant-gather_rows-loop-row
invariant-gather_rows-loop-row l = l.rels ≡ l.initial.rels ++ flat_map row_ranged (take l.row-index l.rows)
