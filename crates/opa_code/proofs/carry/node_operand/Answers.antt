use Rattle.std.proofs.Common.{◌∙◌, map, sym, subst}
use Rattle.opa_line.proofs.Zipping.{ok_weaker}
use Rattle.opa_code.specs.OverLines.Lines.{Has, meaning_of}
use Rattle.opa_code.specs.Running.{node_meaning}
use Rattle.opa_code.proofs.Listing.{reads_attribute}
use Rattle.opa_code.proofs.carry.node_operand.Goals as goal

pub returns-in-Some : goal.returns-in-Some
returns-in-Some g c =
    let l = g.K.Look.looks c.args.look.now in let ops = c.args.operands.now in let enclosing = c.args.enclosing.now in
    ok_weaker c.attr_operand.result _ _ (λ line h _. subst (λ n. Has (node_meaning l n (map meaning_of ops) enclosing) line) (sym (reads_attribute c.args.node.now c.in-Some.attr c.in-Some.owner (sym c.attribute_in.ensures ∙ c.in-Some.is))) h) c.attr_operand.ensures

pub returns-in-None : goal.returns-in-None
returns-in-None g c =
    let l = g.K.Look.looks c.args.look.now in let enclosing = c.args.enclosing.now in
    ok_weaker c.other_operand.result _ _ (λ line h ok. h l enclosing (sym c.attribute_in.ensures ∙ c.in-None.is) ok) c.other_operand.ensures
