use Rattle.std.proofs.Common.{refl}
use Rattle.opa_parse.proofs.tables.TakingLaws.{columns_more}
use Rattle.opa_parse.proofs.tables.taking.take_columns.Goals as goal

pub loop-attr-preserved : goal.loop-attr-preserved
loop-attr-preserved c =
    columns_more c.args.file c.args.table.now c.args.table.now.heads.conclusions c.args.taken c.loop-attr.place _ c.loop-attr.rest.now c.in-Some.later.now c.in-Some.attr.now c.in_ok-block.block c.loop-attr.next c.in_ok-next.next
    c.in-Some.ensures c.loop-attr.invariant c.in_ok-block.ensures c.in_ok-next.ensures refl
