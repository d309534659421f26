use Rattle.std.proofs.Common.{◌∙◌, ap, refl, sym, drop}
use Rattle.opa_code.proofs.Stepping.{left_on, left_put}
use Rattle.opa_code.proofs.Keeping.{end_whole, end_behind}
use Rattle.opa_code.proofs.leave.leave.Goals as goal

pub returns-in-None-clause-kept : goal.returns-in-None-clause-kept
returns-in-None-clause-kept c l enclosing = left_on l enclosing c.args.stack.now.items c.take_newest.new.operands.items c.args.how c.args.dropped c.args.count c.args.after.now (c.in-None.ensures.1 ∙ sym c.in-None.ensures.0)

pub returns-in_ok-settled-in-Some-clause-kept : goal.returns-in_ok-settled-in-Some-clause-kept
returns-in_ok-settled-in-Some-clause-kept c l enclosing =
    left_put l enclosing c.in_ok-settled-in-Some.settled c.args.stack.now.items c.take_newest.new.operands.items c.put_back.new.stack.items c.in-Some.newest c.args.how c.args.dropped c.args.count c.args.after.now c.behind.result.now
    c.in-Some.ensures c.in_ok-settled-in-Some.ensures (c.behind.ensures ∙ ap (λ k. drop k c.args.after.now) c.needless.ensures)

pub returns-in-None-clause-ends : goal.returns-in-None-clause-ends
returns-in-None-clause-ends c = end_whole c.args.after.now c.args.after.now refl

pub returns-in_ok-settled-in-Some-clause-ends : goal.returns-in_ok-settled-in-Some-clause-ends
returns-in_ok-settled-in-Some-clause-ends c = end_behind c.needless.result c.args.after.now c.behind.result.now c.behind.ensures
