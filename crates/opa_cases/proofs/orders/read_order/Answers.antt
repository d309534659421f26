use Rattle.std.proofs.Common.{sym}
use Rattle.std.proofs.lemmas.Result.{IfErr-weaker, IfOk-weaker}
use Rattle.opa_cases.specs.Orders.{IsOrder}
use Rattle.opa_cases.specs.declared.orders.Asked.TheVariants as asked
use Rattle.opa_cases.proofs.OrderLaws.{uncut, nothing_asked, no_command, a_command, asked_as}
use Rattle.opa_cases.proofs.orders.read_order.Goals as goal

pub returns-then-is_nothing-clause-ok : goal.returns-then-is_nothing-clause-ok
returns-then-is_nothing-clause-ok c = IsOrder.idle (sym c.if-is_nothing.ensures)

pub returns-in-Err-clause-fault : goal.returns-in-Err-clause-fault
returns-in-Err-clause-fault c = uncut c.args.model.now c.args.line.now (sym c.if-is_nothing.ensures) c.in-Err.fault c.in-Err.ensures.fault

pub returns-in-Ok-Suppose-clause-ok : goal.returns-in-Ok-Suppose-clause-ok
returns-in-Ok-Suppose-clause-ok c =
    IsOrder.supposes (sym c.if-is_nothing.ensures) (asked_as c.args.line.now c.in-Ok-Suppose.field-0 asked.Suppose c.in-Ok-Suppose.field-0-is c.in-Ok-Suppose.ensures.asked)

pub returns-in-Ok-Undo-clause-ok : goal.returns-in-Ok-Undo-clause-ok
returns-in-Ok-Undo-clause-ok c =
    IsOrder.undoes (sym c.if-is_nothing.ensures) (asked_as c.args.line.now c.in-Ok-Undo.field-0 asked.Undo c.in-Ok-Undo.field-0-is c.in-Ok-Undo.ensures.asked)

pub returns-in-Ok-Close-clause-ok : goal.returns-in-Ok-Close-clause-ok
returns-in-Ok-Close-clause-ok c =
    IsOrder.closes (sym c.if-is_nothing.ensures) (asked_as c.args.line.now c.in-Ok-Close.field-0 asked.Close c.in-Ok-Close.field-0-is c.in-Ok-Close.ensures.asked)

pub returns-in-Ok-Command-clause-ok : goal.returns-in-Ok-Command-clause-ok
returns-in-Ok-Command-clause-ok c =
    let asks = asked_as c.args.line.now c.in-Ok-Command.field-0 asked.Command c.in-Ok-Command.field-0-is c.in-Ok-Command.ensures.asked in
    IfOk-weaker c.command.result _ _ (λ k h. a_command c.args.model.now c.args.line.now (sym c.if-is_nothing.ensures) k asks h) c.command.ensures.ok

pub returns-in-Ok-Command-clause-fault : goal.returns-in-Ok-Command-clause-fault
returns-in-Ok-Command-clause-fault c =
    let asks = asked_as c.args.line.now c.in-Ok-Command.field-0 asked.Command c.in-Ok-Command.field-0-is c.in-Ok-Command.ensures.asked in
    IfErr-weaker c.command.result _ _ (λ f h. no_command c.args.model.now c.args.line.now (sym c.if-is_nothing.ensures) f asks h) c.command.ensures.fault

pub returns-in-Ok-Nothing-clause-fault : goal.returns-in-Ok-Nothing-clause-fault
returns-in-Ok-Nothing-clause-fault c =
    nothing_asked c.args.model.now c.args.line.now (sym c.if-is_nothing.ensures) (asked_as c.args.line.now c.in-Ok-Nothing.field-0 asked.Nothing c.in-Ok-Nothing.field-0-is c.in-Ok-Nothing.ensures.asked)
