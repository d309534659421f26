use Rattle.std.proofs.Common.{Option, ◌∙◌, inl, refl, sym, subst}
use Rattle.opa_case.specs.declared.change.ChangeCommand.{ChangeCommand}
use Rattle.opa_session.specs.Infer.Sessions.{reached}
use Rattle.opa_batch.specs.Counting.{IsAtMost, ChangeReaches}
use Rattle.opa_batch.specs.Rows.{change_in as change_of}
use Rattle.opa_batch.proofs.CountLaws.{nowhere}
use Rattle.opa_batch.proofs.carrying.take_command.Goals as goal

pub returns-in-None-clause-reaches : goal.returns-in-None-clause-reaches
returns-in-None-clause-reaches c = nowhere (ChangeReaches c.args.base.now c.args.case.now (change_of c.args.command)) (inl refl) c.args.base.now c.args.case.now c.args.case.now refl

pub returns-in_ok-fault-in-Some-clause-reaches : goal.returns-in_ok-fault-in-Some-clause-reaches
returns-in_ok-fault-in-Some-clause-reaches c =
    subst (λ (k : Option ChangeCommand). IsAtMost (ChangeReaches c.args.base.now c.args.case.now k) (reached c.args.base.now c.args.case.now c.take_change.new.case))
    (sym c.in-Some.is ∙ c.change_in.ensures) c.in_ok-fault-in-Some.ensures.reaches
