use Rattle.std.proofs.Common.{rules, ◌≡◌, ◌∷◌, ◌++◌, [], ◌<◌, ◌^◌, ◌∙◌, length, take, drop, refl, sym, ap, subst, arith}
use Rattle.std.proofs.lemmas.Grind.{pieces}
use Rattle.std.proofs.lemmas.Result.{on_ok_weaker}
use Rattle.std.proofs.lemmas.List.{take_all}
use Rattle.opa_date.specs.declared.TheConstants.{DAYS}
use Rattle.opa_line.specs.Lines.{StandsFor}
use Rattle.opa_line.proofs.Zipping.{ok_weaker}
use Rattle.opa_cells.specs.Instances.{global, named}
use Rattle.opa_mean.specs.Meaning.{item}
use Rattle.opa_code.specs.OverLines.Additions.{HasRoom}
use Rattle.opa_code.specs.OverLines.Lines.{values_at}
use Rattle.opa_code.specs.Keeping.{AreRight, IsEnd, IsKept}
use Rattle.opa_code.specs.Steps.{Collected, Stands}
use Rattle.opa_code.proofs.Keeping.{none_right, at_over, among_kept, kept_on, kept_among, new_among, end_behind, end_whole, end_later}
use Rattle.opa_code.proofs.Listing.{count_listed, first_listed, gathered_listed, none_first, some_first, lines_item, attribute_item, none_collected, collected_room, collected_more, collected_all, few_taken, place_again, place_begun}
use Rattle.opa_code.proofs.Stepping.{run_left}
use Rattle.opa_code.proofs.run.+running.Goals as goal

pub run-run_among-requires : goal.run-run_among-requires
run-run_among-requires g t c =
    let right : AreRight (g.K.Look.looks c.args.look.now) c.args.nodes.now c.of-kept.result.lines.items = none_right (g.K.Look.looks c.args.look.now) c.args.nodes.now c.of-kept.result.lines.items c.of-kept.ensures in
    search (rules, arith, right)

pub run_among-loop-node-init : goal.run_among-loop-node-init
run_among-loop-node-init g t c = record {
  keeps = λ end s. subst (λ ls. Stands (g.K.Look.looks c.args.look.now) c.args.enclosing.now ls c.args.nodes.now end) (sym c.in_ok-stack.ensures.items) s;
  few = omega arith;
  ends = end_whole c.args.nodes.now c.args.nodes.now refl;
  right = c.requires;
}

pub run_among-loop-node-preserved : goal.run_among-loop-node-preserved
run_among-loop-node-preserved g t c =
    let l = g.K.Look.looks c.args.look.now in let nodes = c.args.nodes.now in let rest = c.loop-node.rest.now in let after = c.in-Some.after.now in let left = c.in_ok-rest.rest.now in
    let before = c.loop-node.invariant in let ends : IsEnd nodes (c.in-Some.node.now ∷ after) = subst (IsEnd nodes) c.in-Some.ensures before.ends in
    let size = ap length c.in-Some.ensures in let fewer = c.in_ok-rest.ensures.fewer in let few = before.few in
    record {
      keeps = kept_on l c.args.enclosing.now nodes rest after left c.in-Some.node.now c.loop-node.stack.items c.step.new.stack.items c.in-Some.ensures (c.in_ok-rest.ensures.kept nodes ends before.right) before.keeps;
      few = omega (arith, size, fewer, few);
      ends = end_later nodes rest after left c.in-Some.node.now c.in-Some.ensures c.in_ok-rest.ensures.ends before.ends;
      right = c.in_ok-rest.ensures.right nodes ends before.right;
    }

pub run_among-returns-clause-left : goal.run_among-returns-clause-left
run_among-returns-clause-left g t c = run_left (g.K.Look.looks c.args.look.now) c.args.enclosing.now c.args.nodes.now c.loop-node.rest.now c.loop-node.stack.items c.loop-node.invariant.keeps c.in_default.ensures

pub step-returns-in-None-clause-kept : goal.step-returns-in-None-clause-kept
step-returns-in-None-clause-kept g t c = ok_weaker c.go_on.result _ _ (λ rest h nodes ends right. h) (c.go_on.ensures.kept (sym c.over_of.ensures ∙ c.in-None.is))

pub step-returns-in_ok-add-in-Some-clause-kept : goal.step-returns-in_ok-add-in-Some-clause-kept
step-returns-in_ok-add-in-Some-clause-kept g t c nodes ends right =
    let l = g.K.Look.looks c.args.look.now in let n = c.args.node.now in let after = c.args.after.now in
    let q = c.in-Some.quant in let r = c.in-Some.rel in let source = c.in-Some.source in let target = c.in-Some.target in let count = c.in-Some.count in
    among_kept l c.args.enclosing.now c.args.stack.now.items c.add.new.operands.items c.over_line.new.kept.lines.items c.in_ok-line-in-Some.line n q r source target count after c.behind.result.now nodes (sym c.over_of.ensures ∙ c.in-Some.is) c.behind.ensures
    (c.in_ok-add-in-Some.ensures ∙ ap (λ o. c.args.stack.now.items ++ o ∷ []) c.made-value.ensures) (c.in_ok-line-in-Some.ensures nodes (at_over l n q r source target count after nodes (sym c.over_of.ensures ∙ c.in-Some.is) ends) right)

pub step-returns-in_ok-add-in-Some-clause-right : goal.step-returns-in_ok-add-in-Some-clause-right
step-returns-in_ok-add-in-Some-clause-right g t c nodes ends right =
    let over = at_over (g.K.Look.looks c.args.look.now) c.args.node.now c.in-Some.quant c.in-Some.rel c.in-Some.source c.in-Some.target c.in-Some.count c.args.after.now nodes (sym c.over_of.ensures ∙ c.in-Some.is) ends in
    (c.in_ok-line-in-Some.ensures nodes over right).right

pub step-returns-in_ok-add-in-Some-clause-ends : goal.step-returns-in_ok-add-in-Some-clause-ends
step-returns-in_ok-add-in-Some-clause-ends g t c = end_behind c.in-Some.count c.args.after.now c.behind.result.now c.behind.ensures

pub over_line-returns-in-Some : goal.over_line-returns-in-Some
over_line-returns-in-Some g t c =
    let l = g.K.Look.looks c.args.look.now in let e = c.args.enclosing.now in let after = c.args.after.now in let ks = c.args.kept.now.lines.items in let line = c.in-Some.line.now in
    let kept : IsKept l e ks (length after) line = subst (λ xs. IsKept l e xs (length after) line) c.deref.ensures.value c.in-Some.ensures in
    ok_weaker c.same_line.result _ _
    (λ copy h nodes ends right. kept_among l e c.args.quant c.args.rel c.args.source c.args.target c.args.count after nodes ks ks line copy (length after) refl refl kept h ends right) c.same_line.ensures

pub over_line-returns-in_ok-keep-in-None : goal.over_line-returns-in_ok-keep-in-None
over_line-returns-in_ok-keep-in-None g t c nodes ends right =
    new_among (g.K.Look.looks c.args.look.now) c.args.enclosing.now c.args.quant c.args.rel c.args.source c.args.target c.args.count c.args.after.now c.up_to-operand.result.now nodes c.args.kept.now.lines.items c.keep.new.kept.lines.items
    c.in_ok-line-in-None.line (length c.args.after.now) refl c.up_to-operand.ensures c.in_ok-line-in-None.ensures c.in_ok-keep-in-None.ensures ends right

pub listed_line-returns-then-only_counts : goal.listed_line-returns-then-only_counts
listed_line-returns-then-only_counts g t c =
    ok_weaker c.count_line.result _ _ (λ line h. count_listed (g.K.Look.looks c.args.look.now) c.args.enclosing.now c.args.operand.now c.args.quant c.args.target c.args.names.now line (sym c.only_counts.ensures ∙ c.if-only_counts.true) h) c.count_line.ensures

pub listed_line-returns-in-Some : goal.listed_line-returns-in-Some
listed_line-returns-in-Some g t c =
    ok_weaker c.gathered_line.result _ _
    (λ line h. gathered_listed (g.K.Look.looks c.args.look.now) c.args.enclosing.now c.args.operand.now c.args.quant c.in-Some.gathering c.args.target c.args.names.now line (sym c.gathering_of.ensures ∙ c.in-Some.is) h) c.gathered_line.ensures

pub listed_line-returns-in-None : goal.listed_line-returns-in-None
listed_line-returns-in-None g t c =
    ok_weaker c.first_item.result _ _
    (λ line h. first_listed (g.K.Look.looks c.args.look.now) c.args.enclosing.now c.args.operand.now c.args.quant c.args.target c.args.names.now line (sym c.only_counts.ensures ∙ c.if-only_counts.false) (sym c.gathering_of.ensures ∙ c.in-None.is) h) c.first_item.ensures

pub first_item-returns-in-None : goal.first_item-returns-in-None
first_item-returns-in-None g t c =
    ok_weaker c.constant.result _ _
    (λ line h. none_first (g.K.Look.looks c.args.look.now) c.args.enclosing.now c.args.operand.now c.args.quant c.args.target c.args.names.now line c.in-None.ensures h) c.constant.ensures.everywhere

pub first_item-returns-in_ok-lines-in-Some : goal.first_item-returns-in_ok-lines-in-Some
first_item-returns-in_ok-lines-in-Some g t c =
    let l = g.K.Look.looks c.args.look.now in
    let parts = c.in-Some.parts in
    let is = c.deref.ensures.value ∙ c.in_ok-put_first-in-Some.ensures ∙ ap (λ xs. named c.args.target parts.0.now ∷ xs) (ap (drop 1) c.in_ok-inner-in-Some.ensures) in
    let lines = c.in_ok-lines-in-Some.lines.items in
    ok_weaker c.item_line.result _ _ (λ line h. some_first l c.args.enclosing.now c.args.operand.now c.args.quant c.args.target c.args.names.now parts.1.now parts.0.now c.deref.result.now lines line c.in-Some.ensures is c.in_ok-lines-in-Some.ensures
    (subst (λ ls. StandsFor DAYS (λ d. item c.args.quant (values_at ls d)) line) c.deref-in-Some.ensures.value h)) c.item_line.ensures

pub gathered_line-loop-name-init : goal.gathered_line-loop-name-init
gathered_line-loop-name-init g t c = record {
  collected = none_collected (g.K.Look.looks c.args.look.now) c.args.enclosing.now c.args.operand.now c.args.quant c.args.gathering c.args.target c.new-items.result (take 0 c.args.names.now) refl c.new-items.ensures.none c.new-items.ensures.how;
  place = place_begun global c.args.enclosing.now c.in_ok-inner.inner.items c.in_ok-inner.ensures;
  right = none_right (g.K.Look.looks c.args.look.now) c.args.operand.now _ c.of-kept.ensures;
}

pub gathered_line-add_item-requires : goal.gathered_line-add_item-requires
gathered_line-add_item-requires g t c =
    let few : length c.args.names.now < 2 ^ 63 = search (pieces, arith) in
    let room : HasRoom c.loop-name.items = collected_room (g.K.Look.looks c.args.look.now) c.args.enclosing.now c.args.operand.now c.args.quant c.args.gathering c.args.target c.loop-name.items (take c.loop-name.name-index c.args.names.now)
    (few_taken c.args.names.now c.loop-name.name-index few) c.loop-name.invariant.collected in
    let right : AreRight (g.K.Look.looks c.args.look.now) c.args.operand.now c.loop-name.kept.lines.items = c.loop-name.invariant.right in
    search (rules, arith, room, right)

pub gathered_line-loop-name-preserved : goal.gathered_line-loop-name-preserved
gathered_line-loop-name-preserved g t c = record {
  collected = collected_more (g.K.Look.looks c.args.look.now) c.args.enclosing.now c.args.operand.now c.args.quant c.args.gathering c.args.target c.loop-name.items c.add_item.new.items c.args.names.now c.loop-name.name-index c.name-item.result
      c.deref.result.now c.loop-name-test.true c.name-item.is (c.deref.ensures.value ∙ c.in_ok-put_first.ensures ∙ ap (λ xs. named c.args.target c.name-item.result ∷ xs) c.loop-name.invariant.place.behind) c.in_ok-add_item.ensures.item c.loop-name.invariant.collected;
  place = place_again c.args.enclosing.now c.loop-name.inner.items c.put_first.new.all.items (named c.args.target c.name-item.result) c.in_ok-put_first.ensures c.loop-name.invariant.place;
  right = c.in_ok-add_item.ensures.right;
}

pub gathered_line-told-requires : goal.gathered_line-told-requires
gathered_line-told-requires g t c =
    let few : length c.args.names.now < 2 ^ 63 = search (pieces, arith) in
    collected_room (g.K.Look.looks c.args.look.now) c.args.enclosing.now c.args.operand.now c.args.quant c.args.gathering c.args.target c.loop-name.items (take c.loop-name.name-index c.args.names.now)
    (few_taken c.args.names.now c.loop-name.name-index few) c.loop-name.invariant.collected

pub gathered_line-returns : goal.gathered_line-returns
gathered_line-returns g t c =
    let l = g.K.Look.looks c.args.look.now in
    let names = c.args.names.now in
    let all : take c.loop-name.name-index names ≡ names = take_all c.loop-name.name-index names (omega arith) in
    ok_weaker c.told.result _ _ (λ line h. collected_all l c.args.enclosing.now c.args.operand.now c.args.quant c.args.gathering c.args.target c.loop-name.items names line
    (subst (λ ns. Collected l c.args.enclosing.now c.args.operand.now c.args.quant c.args.gathering c.args.target ns c.loop-name.items) all c.loop-name.invariant.collected) h) c.told.ensures

pub add_item-returns-in-Some-clause-item : goal.add_item-returns-in-Some-clause-item
add_item-returns-in-Some-clause-item g t c =
    on_ok_weaker c.add_attribute.result
    (attribute_item (g.K.Look.looks c.args.look.now) c.args.enclosing.now c.args.operand.now c.args.quant c.in-Some.attr c.in-Some.owner c.args.items.now c.add_attribute.new.items (sym c.attribute_of.ensures ∙ c.in-Some.is)) c.add_attribute.ensures

pub add_item-returns-in_ok-lines-in-None-clause-item : goal.add_item-returns-in_ok-lines-in-None-clause-item
add_item-returns-in_ok-lines-in-None-clause-item g t c =
    on_ok_weaker c.add_item.result
    (lines_item (g.K.Look.looks c.args.look.now) c.args.enclosing.now c.args.operand.now c.args.quant c.in_ok-lines-in-None.lines.items c.args.items.now c.add_item.new.self c.in_ok-lines-in-None.ensures.left) c.add_item.ensures
