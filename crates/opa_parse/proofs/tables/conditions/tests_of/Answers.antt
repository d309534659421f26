use Rattle.std.proofs.Common.{◌≡◌, [], rules}
use Rattle.opa_parse.specs.Tables.Cells.{IsConditionCell}
use Rattle.opa_parse.proofs.tables.EachLaws.{read_start, read_more, read_none, read_end}
use Rattle.opa_parse.proofs.tables.conditions.tests_of.Goals as goal

pub loop-cell-init : goal.loop-cell-init
loop-cell-init c = read_start (IsConditionCell c.args.names.now) c.args.cells.now _ c.new-tests.ensures

pub returns-in-None : goal.returns-in-None
returns-in-None c =
    read_none (IsConditionCell c.args.names.now) c.args.cells.now c.loop-cell.rest.now c.in-Some.later.now c.in-Some.cell.now c.loop-cell.tests c.in-Some.ensures c.loop-cell.invariant
    (rw (c.in-None.is, c.as_slice.ensures) at c.in_ok-condition_cell.ensures)

pub loop-cell-preserved : goal.loop-cell-preserved
loop-cell-preserved c =
    read_more (IsConditionCell c.args.names.now) c.args.cells.now c.loop-cell.rest.now c.in-Some.later.now c.in-Some.cell.now c.loop-cell.tests _ c.in-Some-2.test c.in-Some.ensures c.loop-cell.invariant
    (rw (c.in-Some-2.is, c.as_slice.ensures) at c.in_ok-condition_cell.ensures) c.in_ok-push-in-Some-2.ensures.ok

pub returns : goal.returns
returns c =
    let e : c.loop-cell.rest.now ≡ [] = search rules in
    read_end (IsConditionCell c.args.names.now) c.args.cells.now c.loop-cell.rest.now c.loop-cell.tests e c.loop-cell.invariant
