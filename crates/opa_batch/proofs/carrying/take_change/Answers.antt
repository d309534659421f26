use Rattle.std.proofs.Common.{inl, refl}
use Rattle.std.specs.Prelude.{Some}
use Rattle.opa_batch.specs.Counting.{ChangeReaches}
use Rattle.opa_batch.proofs.CountLaws.{change_reaches, nowhere}
use Rattle.opa_batch.proofs.carrying.take_change.Goals as goal

pub returns-in-Ok-clause-reaches : goal.returns-in-Ok-clause-reaches
returns-in-Ok-clause-reaches c = change_reaches c.args.base.now c.args.case.now c.args.change c.change_case.new.case c.in-Ok.ensures.ok

pub returns-in_ok-text-in-Err-clause-reaches : goal.returns-in_ok-text-in-Err-clause-reaches
returns-in_ok-text-in-Err-clause-reaches c =
    nowhere (ChangeReaches c.args.base.now c.args.case.now (Some c.args.change)) (inl refl) c.args.base.now c.args.case.now c.change_case.new.case c.in-Err.ensures.unchanged
