use Rattle.std.proofs.Common.{◌∙◌, ◌∷◌, sym, subst}
use Rattle.opa_line.proofs.Zipping.{ok_weaker}
use Rattle.opa_code.specs.Steps.{Keeps}
use Rattle.opa_code.proofs.Stepping.{leave_is}
use Rattle.opa_code.proofs.leave.go_on.Goals as goal

pub returns-in-Some-clause-kept : goal.returns-in-Some-clause-kept
returns-in-Some-clause-kept g c no_over =
    let l = g.K.Look.looks c.args.look.now in let enclosing = c.args.enclosing.now in
    ok_weaker c.leave.result _ _ (λ rest h. subst (λ n. Keeps l enclosing c.args.stack.now.items (n ∷ c.args.after.now) c.leave.new.stack.items rest.now)
    (sym (leave_is c.args.node.now c.in-Some.how c.in-Some.dropped c.in-Some.count (sym c.leave_of.ensures ∙ c.in-Some.is))) (h l enclosing)) c.leave.ensures.kept

pub returns-in-None-clause-kept : goal.returns-in-None-clause-kept
returns-in-None-clause-kept g c no_over = c.go_past.ensures.kept no_over (sym c.leave_of.ensures ∙ c.in-None.is)
