use Rattle.std.specs.Prelude.{map as items}
use Rattle.std.proofs.Common.{arith, ◌≡◌, ◌∷◌, []}
use Rattle.std.proofs.lemmas.Grind.{common_steps}
use Rattle.opa_cells.specs.Rows.{seen}
use Rattle.opa_cells.proofs.FoundCells.{rows_step, rows_end}
use Rattle.opa_cells.proofs.unordered.add_rows.Goals as goal

pub loop-number-preserved : goal.loop-number-preserved
loop-number-preserved g c =
    let step : (c.in-Some.number.now, c.in-Some.row.now) ∷ c.next.new.self ≡ c.loop-number.number-iterator = grind (arith, common_steps) in
    rows_step c.args.rows.now.entries c.next.new.self c.loop-number.number-iterator c.in-Some.number.now c.in-Some.row.now (items seen c.args.cells.now.items) (items seen c.loop-number.cells.items) (items seen c.add_found.new.cells.items) step c.loop-number.invariant c.in_ok-add_found.ensures

pub returns : goal.returns
returns g c =
    let done : c.loop-number.number-iterator ≡ [] = grind (arith, common_steps) in
    rows_end c.args.rows.now.entries c.loop-number.number-iterator (items seen c.args.cells.now.items) (items seen c.loop-number.cells.items) done c.loop-number.invariant
