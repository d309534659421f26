use Rattle.std.proofs.Common.{◌∙◌, ◌∷◌, refl, sym, subst}
use Rattle.opa_line.proofs.Zipping.{ok_weaker}
use Rattle.opa_code.specs.Steps.{Keeps}
use Rattle.opa_code.proofs.Stepping.{carried_kept, pass_is}
use Rattle.opa_code.proofs.Keeping.{end_whole}
use Rattle.opa_code.proofs.leave.go_past.Goals as goal

pub returns-in-Some-clause-kept : goal.returns-in-Some-clause-kept
returns-in-Some-clause-kept g c no_over no_leave =
    let l = g.K.Look.looks c.args.look.now in let enclosing = c.args.enclosing.now in
    ok_weaker c.pass.result _ _ (λ rest h. subst (λ n. Keeps l enclosing c.args.stack.now.items (n ∷ c.args.after.now) c.pass.new.stack.items rest.now)
    (sym (pass_is c.args.node.now c.in-Some.count (sym c.pass_of.ensures ∙ c.in-Some.is))) (h l enclosing)) c.pass.ensures.kept

pub returns-in_ok-carry_out-in-None-clause-kept : goal.returns-in_ok-carry_out-in-None-clause-kept
returns-in_ok-carry_out-in-None-clause-kept g c no_over no_leave =
    carried_kept (g.K.Look.looks c.args.look.now) c.args.enclosing.now c.args.stack.now.items c.carry_out.new.stack.items c.args.node.now c.args.after.now no_over no_leave (sym c.pass_of.ensures ∙ c.in-None.is) c.in_ok-carry_out-in-None.ensures

pub returns-in_ok-carry_out-in-None-clause-ends : goal.returns-in_ok-carry_out-in-None-clause-ends
returns-in_ok-carry_out-in-None-clause-ends g c = end_whole c.args.after.now c.args.after.now refl
