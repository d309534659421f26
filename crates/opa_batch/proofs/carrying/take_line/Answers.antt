use Rattle.std.proofs.Common.{inl, refl}
use Rattle.opa_session.specs.Infer.Sessions.{reached}
use Rattle.opa_batch.specs.Counting.{LineReaches}
use Rattle.opa_batch.specs.Rows.{line_of}
use Rattle.opa_batch.proofs.CellLaws.{refused}
use Rattle.opa_batch.proofs.CountLaws.{line_reaches, nowhere}
use Rattle.opa_batch.proofs.carrying.take_line.Goals as goal

pub returns-in_ok-fault-in-Ok-clause-reaches : goal.returns-in_ok-fault-in-Ok-clause-reaches
returns-in_ok-fault-in-Ok-clause-reaches c =
    line_reaches c.args.base.now c.args.case.now _ (line_of c.args.head.now c.args.cell.now) c.in-Ok.command (reached c.args.base.now c.args.case.now c.take_command.new.case) refl c.in-Ok.ensures.ok c.in-Ok.ensures.formed c.in_ok-fault-in-Ok.ensures.reaches

pub returns-in_ok-text-in-Err-clause-ok : goal.returns-in_ok-text-in-Err-clause-ok
returns-in_ok-text-in-Err-clause-ok c =
    refused c.args.base.now c.args.column c.args.case.now _ (line_of c.args.head.now c.args.cell.now) c.in_ok-text-in-Err.text c.in-Err.fault refl c.in_ok-text-in-Err.ensures.some c.in-Err.ensures.fault c.in_ok-text-in-Err.ensures.text

pub returns-in_ok-text-in-Err-clause-reaches : goal.returns-in_ok-text-in-Err-clause-reaches
returns-in_ok-text-in-Err-clause-reaches c = nowhere (LineReaches c.args.base.now c.args.case.now (line_of c.args.head.now c.args.cell.now)) (inl refl) c.args.base.now c.args.case.now c.args.case.now refl
