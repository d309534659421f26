use Rattle.std.proofs.Common.{refl, subst}
use Rattle.opa_code.specs.Steps.{IsRefuted}
use Rattle.opa_code.proofs.Stepping.{passed_on, passed_off}
use Rattle.opa_code.proofs.Keeping.{end_whole, end_behind}
use Rattle.opa_code.proofs.leave.pass.Goals as goal

pub returns-then-is_refuted-clause-kept : goal.returns-then-is_refuted-clause-kept
returns-then-is_refuted-clause-kept c l enclosing =
    passed_off l enclosing c.args.stack.now.items c.add.new.operands.items c.in_ok-line.line c.args.count c.args.after.now c.behind.result.now (subst IsRefuted c.deref.ensures.value (c.is_refuted.ensures c.if-is_refuted.true))
    c.in_ok-line.ensures c.in_ok-add.ensures c.behind.ensures

pub returns-clause-kept : goal.returns-clause-kept
returns-clause-kept c l enclosing = passed_on l enclosing c.args.stack.now.items c.args.stack.now.items c.args.count c.args.after.now refl

pub returns-then-is_refuted-clause-ends : goal.returns-then-is_refuted-clause-ends
returns-then-is_refuted-clause-ends c = end_behind c.args.count c.args.after.now c.behind.result.now c.behind.ensures

pub returns-clause-ends : goal.returns-clause-ends
returns-clause-ends c = end_whole c.args.after.now c.args.after.now refl
