use Rattle.std.specs.Prelude.{take}
use Rattle.std.specs.List.{list_any}
use Rattle.opa_case.specs.Listed.{is_list}
use Rattle.opa_case.specs.Touched.{AddsKeys}
use Rattle.opa_case.proofs.touched.add_cells.Given as goal

abbrev pub invariant-loop-number : goal.invariant-loop-number
invariant-loop-number l = AddsKeys l.fn.keys l.keys (λ q j. list_any (λ cell. is_list cell.0 cell.1.now q j) (take l.number-index l.cells))
