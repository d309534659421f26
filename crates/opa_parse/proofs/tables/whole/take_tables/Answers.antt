use Rattle.std.proofs.Common.{◌≡◌, [], subst, rules}
use Rattle.opa_parse.specs.Tables.Reading.{TakesTable}
use Rattle.opa_parse.proofs.tables.WholeLaws.{run_starts, run_goes, run_ends}
use Rattle.opa_parse.proofs.tables.whole.take_tables.Goals as goal

pub loop-table-init : goal.loop-table-init
loop-table-init c = run_starts c.args.model.now c.args.names.now c.args.tables.now c.args.taken

pub loop-table-preserved : goal.loop-table-preserved
loop-table-preserved c =
    run_goes c.args.model.now c.args.names.now c.args.tables.now c.loop-table.rest.now c.in-Some.later.now c.in-Some.table.now c.args.taken c.loop-table.next c.in_ok-next.next c.in-Some.ensures c.loop-table.invariant
    (subst (λ bytes. TakesTable c.args.model.now c.args.names.now c.in-Some.table.now.file bytes c.loop-table.next c.in_ok-next.next) c.as_slice.ensures c.in_ok-next.ensures)

pub returns : goal.returns
returns c =
    let e : c.loop-table.rest.now ≡ [] = search rules in
    run_ends c.args.model.now c.args.names.now c.args.tables.now c.loop-table.rest.now c.args.taken c.loop-table.next e c.loop-table.invariant
