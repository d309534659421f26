use Rattle.opa_script.specs.declared.command.Command.TheVariants as command
use Rattle.opa_reply.proofs.ReplyLaws.{carried_as, halts_as}
use Rattle.opa_reply.proofs.carrying.carry_out.Goals as goal

pub returns-in-Ok-clause-ok : goal.returns-in-Ok-clause-ok
returns-in-Ok-clause-ok g c = carried_as c.args.command (command.Change c.in-Change.command) _ _ _ c.in-Change.is (c.in-Ok.ensures.ok _)

pub returns-in-Change-clause-err : goal.returns-in-Change-clause-err
returns-in-Change-clause-err g c = halts_as _ _ c.args.command (command.Change c.in-Change.command) _ _ c.in-Change.is (c.in-Err.ensures.err _ _ _)

pub returns-in-Ok-save-clause-ok : goal.returns-in-Ok-save-clause-ok
returns-in-Ok-save-clause-ok g c = carried_as c.args.command (command.Save c.in-Save.name) _ _ _ c.in-Save.is (c.in-Ok-save.ensures.ok _ _)
