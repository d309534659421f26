use Rattle.std.proofs.Common.{◌≡◌, ◌++◌, take}
use Rattle.std.specs.Prelude.{flat_map}
use Rattle.opa_rules.specs.Reviewing.Comparisons.{comparisons, row_comparisons}
use Rattle.opa_rules.proofs.reviewing.comparisons.+walk.Given as goal

abbrev pub invariant-gather_all-loop-part : goal.invariant-gather_all-loop-part
invariant-gather_all-loop-part l = l.found ≡ l.initial.found ++ flat_map comparisons (take l.part-index l.parts)

abbrev pub invariant-gather_rows-loop-row : goal.invariant-gather_rows-loop-row
invariant-gather_rows-loop-row l = l.found ≡ l.initial.found ++ flat_map row_comparisons (take l.row-index l.rows)
