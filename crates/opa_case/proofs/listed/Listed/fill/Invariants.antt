use Rattle.std.specs.Prelude.{map as items}
use Rattle.std.specs.Prelude.{◌≡◌, drop}
use Rattle.opa_cells.specs.Rows.{insert_all, seen}
use Rattle.opa_case.proofs.listed.Listed.fill.Given as goal

abbrev pub invariant-loop-number : goal.invariant-loop-number
invariant-loop-number l = insert_all l.self (items seen (drop l.number-index l.lists)) ≡ insert_all l.fn.self (items seen l.lists)
