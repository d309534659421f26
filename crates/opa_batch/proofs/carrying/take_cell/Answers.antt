use Rattle.std.proofs.Common.{refl}
use Rattle.opa_session.specs.Infer.Sessions.{reached}
use Rattle.opa_batch.specs.Counting.{CellReaches}
use Rattle.opa_batch.specs.Numbered.{left_by}
use Rattle.opa_batch.proofs.CellLaws.{full_cell}
use Rattle.opa_batch.proofs.CountLaws.{full_cell_reaches, no_line, nowhere}
use Rattle.opa_batch.proofs.carrying.take_cell.Goals as goal

pub returns-then-is_empty-clause-reaches : goal.returns-then-is_empty-clause-reaches
returns-then-is_empty-clause-reaches c =
    let r = c.args.base.now in
    let held = c.args.case.now in
    nowhere (CellReaches r held c.args.head.now c.args.cell.now) (no_line r held c.args.head.now c.args.cell.now) r held held refl

pub returns-clause-ok : goal.returns-clause-ok
returns-clause-ok c =
    let r = c.args.base.now in
    let held = c.args.case.now in
    let x = left_by c.in_ok-fault.fault c.take_line.new.case in
    full_cell r c.args.column held c.args.head.now c.args.cell.now x c.is_empty.result c.is_empty.ensures c.if-is_empty.false c.in_ok-fault.ensures.ok

pub returns-clause-reaches : goal.returns-clause-reaches
returns-clause-reaches c =
    let r = c.args.base.now in
    let held = c.args.case.now in
    let n = reached r held c.take_line.new.case in
    full_cell_reaches r held c.args.head.now c.args.cell.now c.is_empty.result n c.is_empty.ensures c.if-is_empty.false c.in_ok-fault.ensures.reaches
