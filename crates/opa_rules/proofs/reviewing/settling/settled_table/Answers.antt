use Rattle.std.proofs.Common.{◌≡◌, ◌<◌, ◌≤◌, List, [], All, arith, length, ap, sym, subst, ◌∙◌}
use Rattle.opa_model.specs.declared.ids.AttrId.{AttrId}
use Rattle.opa_tree.specs.Levels.{levels}
use Rattle.opa_tree.specs.Ranks.{rank_at}
use Rattle.opa_mean.proofs.goals.Filling.{level_at, level_declared, level_ranked}
use Rattle.opa_rules.specs.Reviewing.Marks.{AreSettled}
use Rattle.opa_rules.proofs.reviewing.SettledLaws.{next_rank, at_last}
use Rattle.opa_rules.proofs.reviewing.settling.settled_table.Goals as goal

pub settle_level-requires-clause-declared : goal.settle_level-requires-clause-declared
settle_level-requires-clause-declared c =
    let r = c.args.base.now in
    let lt : c.loop-level.level-index < length c.as_slice-level-items.result.now = omega (arith, c.loop-level-test.true) in
    let are = c.as_slice-level-items.ensures ∙ c.in_ok-levels.ensures ∙ ap (λ rs. levels rs c.attribute_count-count.result) c.as_slice.ensures ∙ ap (λ n. levels r.ranks n) c.attribute_count-count.ensures.count in
    let is = level_at r c.as_slice-level-items.result.now c.loop-level.level-index c.level-item.result are lt c.level-item.is in
    subst (λ (xs : List AttrId). All (λ (a : AttrId). a.0 < length r.model.attributes) xs) (sym (c.as_slice-in-loop-level.ensures ∙ is)) (level_declared r c.loop-level.level-index)

pub loop-level-preserved : goal.loop-level-preserved
loop-level-preserved c =
    let r = c.args.base.now in
    let n = c.loop-level.level-index in
    let lt : c.loop-level.level-index < length c.as_slice-level-items.result.now = omega (arith, c.loop-level-test.true) in
    let are = c.as_slice-level-items.ensures ∙ c.in_ok-levels.ensures ∙ ap (λ rs. levels rs c.attribute_count-count.result) c.as_slice.ensures ∙ ap (λ k. levels r.ranks k) c.attribute_count-count.ensures.count in
    let is = level_at r c.as_slice-level-items.result.now n c.level-item.result are lt c.level-item.is in
    let own = c.as_slice-in-loop-level.ensures ∙ is in
    let ranked = subst (λ (xs : List AttrId). All (λ (a : AttrId). rank_at r.ranks a ≡ n) xs) (sym own) (level_ranked r n) in
    (c.settle_level.ensures.long, next_rank r n c.as_slice-in-loop-level.result.now c.settle_level.new.marks.items own c.settle_level.ensures.long (c.in_ok-settle_level.ensures.done n ranked c.loop-level.invariant.1))

pub returns : goal.returns
returns c =
    let r = c.args.base.now in
    let past : length c.as_slice-level-items.result.now ≤ c.loop-level.level-index = omega (arith, c.loop-level-test.false) in
    let are = c.as_slice-level-items.ensures ∙ c.in_ok-levels.ensures ∙ ap (λ rs. levels rs c.attribute_count-count.result) c.as_slice.ensures ∙ ap (λ k. levels r.ranks k) c.attribute_count-count.ensures.count in
    subst (λ marks. AreSettled r marks) (sym c.from_vec.ensures) (at_last r c.as_slice-level-items.result.now c.loop-level.level-index c.loop-level.marks.items are past c.loop-level.invariant.1)
