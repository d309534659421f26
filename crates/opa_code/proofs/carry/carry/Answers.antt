use Rattle.std.proofs.Common.{◌≡◌, ◌∙◌, ◌-◌, length, map, drop, ap, sym, subst, arith}
use Rattle.std.proofs.lemmas.Result.{on_ok_weaker}
use Rattle.opa_code.specs.OverLines.Lines.{Has, Stand, meaning_of}
use Rattle.opa_code.specs.Running.{node_meaning, operand_count, put}
use Rattle.opa_code.proofs.Standing.{put_stands}
use Rattle.opa_code.proofs.carry.carry.Goals as goal

pub returns : goal.returns
returns g c =
    let l = g.K.Look.looks c.args.look.now in
    let n = c.args.node.now in
    let old = c.args.stack.now.items in
    let enclosing = c.args.enclosing.now in
    let from = c.saturating_sub-from.result in
    let is : from ≡ length old - operand_count n = omega (arith, c.saturating_sub-from.ensures, c.len.ensures, c.operand_count.ensures) in
    let ops = c.behind-operands.ensures ∙ ap (drop from) c.deref.ensures.value in
    on_ok_weaker c.add.result (λ e st ok h. subst (λ ls. Stand enclosing ls (put l n st)) (sym e)
    (put_stands enclosing l n old c.truncate.new.self.items st from c.in_ok-operand.operand is c.truncate.ensures.items
    (λ ok. subst (λ xs. Has (node_meaning l n (map meaning_of xs) enclosing) c.in_ok-operand.operand) ops (c.in_ok-operand.ensures ok)) ok h)) c.add.ensures
