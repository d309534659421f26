use Rattle.std.proofs.Common.{sym, subst}
use Rattle.std.proofs.lemmas.Result.{on_ok_weaker}
use Rattle.opa_code.specs.OverLines.Lines.{Stand}
use Rattle.opa_code.specs.Running.{put}
use Rattle.opa_code.proofs.Standing.{chosen_stands}
use Rattle.opa_code.proofs.carry.carry_out.Goals as goal

pub returns-then-can_choose : goal.returns-then-can_choose
returns-then-can_choose g c =
    let l = g.K.Look.looks c.args.look.now in let enclosing = c.args.enclosing.now in let new = c.choose.new.stack.items in
    on_ok_weaker c.choose.result (λ chosen st ok h. subst (λ n. Stand enclosing new (put l n st)) (sym (c.can_choose.ensures c.if-can_choose.true).0)
    (chosen_stands enclosing l c.args.stack.now.items new st chosen h)) c.choose.ensures
