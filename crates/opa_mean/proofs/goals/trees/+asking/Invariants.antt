use Rattle.std.proofs.Common.{◌≡◌, drop}
use Rattle.std.specs.List.{list_all}
use Rattle.opa_mean.specs.Frees.{is_free}
use Rattle.opa_mean.specs.Goals.Tables.{row_asks_nothing}
use Rattle.opa_mean.proofs.goals.trees.+asking.Given as goal

abbrev pub invariant-are_free-loop-part : goal.invariant-are_free-loop-part
invariant-are_free-loop-part l = list_all is_free l.parts ≡ list_all is_free (drop l.part-index l.parts)

abbrev pub invariant-are_rows_free-loop-row : goal.invariant-are_rows_free-loop-row
invariant-are_rows_free-loop-row l = list_all row_asks_nothing l.rows ≡ list_all row_asks_nothing (drop l.row-index l.rows)
