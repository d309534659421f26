use Rattle.std.proofs.Common.{◌≡◌, ◌+◌, ℕ, List, Bool, [], length, ap, sym, subst, ◌∙◌}
use Rattle.opa_tree.specs.Levels.{levels}
use Rattle.opa_rules.specs.Reviewing.Marks.{AreSeen, AreSpread}
use Rattle.opa_rules.proofs.reviewing.SeenLaws.{levels_long, seen_last, spread_first}
use Rattle.opa_rules.proofs.reviewing.looking.seen_table.Goals as goal

pub pass_on_all-requires : goal.pass_on_all-requires
pass_on_all-requires c =
    c.as_slice-2.ensures ∙ c.in_ok-levels.ensures ∙ ap (λ rs. levels rs c.attribute_count-count.result) c.as_slice.ensures ∙ ap (λ n. levels c.args.base.now.ranks n) c.attribute_count-count.ensures.count

pub returns : goal.returns
returns c =
    let r = c.args.base.now in
    let are = c.as_slice-2.ensures ∙ c.in_ok-levels.ensures ∙ ap (λ rs. levels rs c.attribute_count-count.result) c.as_slice.ensures ∙ ap (λ n. levels r.ranks n) c.attribute_count-count.ensures.count in
    let first = spread_first r (length c.as_slice-2.result.now) _ (levels_long r c.as_slice-2.result.now are) c.attribute_count-count.ensures.form.in_range.goals c.in_ok-marks.ensures in
    subst (λ marks. AreSeen r marks) (sym c.from_vec.ensures) (seen_last r c.pass_on_all.new.marks.items (c.in_ok-pass_on_all.ensures first))
