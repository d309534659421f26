use Rattle.std.proofs.Common.{[], ◌∷◌, ◌++◌, ◌∙◌, sym, ap, subst}
use Rattle.std.specs.List.{AllByRecursion}
use Rattle.opa_line.proofs.Zipping.{ok_weaker}
use Rattle.opa_need.specs.Alike.{AgreeEach, AgreeOver, Follows, HasOnePlace, HasSame, IsAlike, IsRowAlike}
use Rattle.opa_need.proofs.NeedsAlike.{agree_more, agree_rows_more, alike_const, alike_attr, alike_all, alike_any, alike_not, alike_op, alike_certain, alike_known, alike_over_agreed, alike_window, alike_rolling, alike_table}
use Rattle.opa_need.proofs.alike.+comparing.Goals as goal

pub tree_is_alike-returns-in-Const-clause-alike : goal.tree_is_alike-returns-in-Const-clause-alike
tree_is_alike-returns-in-Const-clause-alike g t c =
    let r = g.H.Held.rules c.args.held.now in let held = g.H.Held.held c.args.held.now in
    λ _ x y follows. subst (IsAlike r held x y) (sym c.in-Const.is) (alike_const r held x y c.in-Const.field-0)

pub tree_is_alike-returns-in-Attr-clause-alike : goal.tree_is_alike-returns-in-Attr-clause-alike
tree_is_alike-returns-in-Attr-clause-alike g t c =
    let r = g.H.Held.rules c.args.held.now in let held = g.H.Held.held c.args.held.now in
    λ yes x y follows. subst (IsAlike r held x y) (sym c.in-Attr.is) (alike_attr r held x y c.in-Attr.attr (subst (HasSame r held x y) c.owner.ensures
    (follows c.owner.result (subst (λ xs. HasOnePlace r held xs c.args.here.now c.args.there.now c.owner.result) c.as_slice.ensures (c.has_one_place.ensures yes)))))

pub tree_is_alike-returns-in-All-clause-alike : goal.tree_is_alike-returns-in-All-clause-alike
tree_is_alike-returns-in-All-clause-alike g t c =
    let r = g.H.Held.rules c.args.held.now in let held = g.H.Held.held c.args.held.now in
    ok_weaker c.are_alike.result _ _ (λ b h yes x y follows. subst (IsAlike r held x y) (sym c.in-All.is) (alike_all r held x y c.in-All.parts (subst (AllByRecursion (IsAlike r held x y)) c.as_slice-in-All.ensures (h yes x y follows)))) c.are_alike.ensures.alike

pub tree_is_alike-returns-in-Any-clause-alike : goal.tree_is_alike-returns-in-Any-clause-alike
tree_is_alike-returns-in-Any-clause-alike g t c =
    let r = g.H.Held.rules c.args.held.now in let held = g.H.Held.held c.args.held.now in
    ok_weaker c.are_alike-in-Any.result _ _ (λ b h yes x y follows. subst (IsAlike r held x y) (sym c.in-Any.is) (alike_any r held x y c.in-Any.parts (subst (AllByRecursion (IsAlike r held x y)) c.as_slice-in-Any.ensures (h yes x y follows)))) c.are_alike-in-Any.ensures.alike

pub tree_is_alike-returns-in-Op-clause-alike : goal.tree_is_alike-returns-in-Op-clause-alike
tree_is_alike-returns-in-Op-clause-alike g t c =
    let r = g.H.Held.rules c.args.held.now in let held = g.H.Held.held c.args.held.now in
    ok_weaker c.are_alike-in-Op.result _ _ (λ b h yes x y follows. subst (IsAlike r held x y) (sym c.in-Op.is) (alike_op r held x y c.in-Op.field-0 c.in-Op.parts (subst (AllByRecursion (IsAlike r held x y)) c.as_slice-in-Op.ensures (h yes x y follows)))) c.are_alike-in-Op.ensures.alike

pub tree_is_alike-returns-in-Window-clause-alike : goal.tree_is_alike-returns-in-Window-clause-alike
tree_is_alike-returns-in-Window-clause-alike g t c =
    let r = g.H.Held.rules c.args.held.now in let held = g.H.Held.held c.args.held.now in
    ok_weaker c.are_alike-in-Window.result _ _ (λ b h yes x y follows. subst (IsAlike r held x y) (sym c.in-Window.is) (alike_window r held x y c.in-Window.field-0 c.in-Window.parts (subst (AllByRecursion (IsAlike r held x y)) c.as_slice-in-Window.ensures (h yes x y follows)))) c.are_alike-in-Window.ensures.alike

pub tree_is_alike-returns-in-Not-clause-alike : goal.tree_is_alike-returns-in-Not-clause-alike
tree_is_alike-returns-in-Not-clause-alike g t c =
    let r = g.H.Held.rules c.args.held.now in let held = g.H.Held.held c.args.held.now in
    ok_weaker c.tree_is_alike.result _ _ (λ b h yes x y follows. subst (IsAlike r held x y) (sym c.in-Not.is) (alike_not r held x y c.in-Not.part (subst (IsAlike r held x y) c.get.ensures (h yes x y follows)))) c.tree_is_alike.ensures.alike

pub tree_is_alike-returns-in-Certain-clause-alike : goal.tree_is_alike-returns-in-Certain-clause-alike
tree_is_alike-returns-in-Certain-clause-alike g t c =
    let r = g.H.Held.rules c.args.held.now in let held = g.H.Held.held c.args.held.now in
    ok_weaker c.tree_is_alike-in-Certain.result _ _ (λ b h yes x y follows. subst (IsAlike r held x y) (sym c.in-Certain.is) (alike_certain r held x y c.in-Certain.part (subst (IsAlike r held x y) c.get-in-Certain.ensures (h yes x y follows)))) c.tree_is_alike-in-Certain.ensures.alike

pub tree_is_alike-returns-in-Known-clause-alike : goal.tree_is_alike-returns-in-Known-clause-alike
tree_is_alike-returns-in-Known-clause-alike g t c =
    let r = g.H.Held.rules c.args.held.now in let held = g.H.Held.held c.args.held.now in
    ok_weaker c.tree_is_alike-in-Known.result _ _ (λ b h yes x y follows. subst (IsAlike r held x y) (sym c.in-Known.is) (alike_known r held x y c.in-Known.part (subst (IsAlike r held x y) c.get-in-Known.ensures (h yes x y follows)))) c.tree_is_alike-in-Known.ensures.alike

pub tree_is_alike-returns-in-Rolling-clause-alike : goal.tree_is_alike-returns-in-Rolling-clause-alike
tree_is_alike-returns-in-Rolling-clause-alike g t c =
    let r = g.H.Held.rules c.args.held.now in let held = g.H.Held.held c.args.held.now in
    ok_weaker c.tree_is_alike-in-Rolling.result _ _ (λ b h yes x y follows. subst (IsAlike r held x y) (sym c.in-Rolling.is) (alike_rolling r held x y c.in-Rolling.field-0 c.in-Rolling.field-1 c.in-Rolling.part (subst (IsAlike r held x y) c.get-in-Rolling.ensures (h yes x y follows)))) c.tree_is_alike-in-Rolling.ensures.alike

pub tree_is_alike-returns-in-Over-clause-alike : goal.tree_is_alike-returns-in-Over-clause-alike
tree_is_alike-returns-in-Over-clause-alike g t c =
    let r = g.H.Held.rules c.args.held.now in let held = g.H.Held.held c.args.held.now in
    ok_weaker c.over_is_alike.result _ _ (λ b h yes x y follows. subst (IsAlike r held x y) (sym c.in-Over.is) (alike_over_agreed r held c.args.hidden.now c.args.here.now c.args.there.now c.in-Over.field-0 c.in-Over.rel c.in-Over.parts
    (subst (AgreeOver r held c.args.hidden.now c.args.here.now c.args.there.now c.in-Over.rel) c.as_slice-in-Over.ensures (h yes)) x y follows)) c.over_is_alike.ensures.alike

pub over_is_alike-returns-clause-alike : goal.over_is_alike-returns-clause-alike
over_is_alike-returns-clause-alike g t c =
    let r = g.H.Held.rules c.args.held.now in let held = g.H.Held.held c.args.held.now in
    let hidden = c.args.hidden.now in let here = c.args.here.now in let there = c.args.there.now in
    λ yes. record {
      source = subst (λ o. HasOnePlace r held hidden here there o) c.source.ensures (subst (λ xs. HasOnePlace r held xs here there c.source.result) c.as_slice.ensures (c.has_one_place.ensures c.if-not-has_one_place.false));
      operands = subst (λ xs. AgreeEach r held xs here there c.args.trees.now) (c.in_ok-push.ensures.ok ∙ ap (λ o. hidden ++ o ∷ []) c.target_of.ensures) (c.in_ok-alike.ensures.alike yes);
    }

pub tree_is_alike-returns-then-branch-clause-alike : goal.tree_is_alike-returns-then-branch-clause-alike
tree_is_alike-returns-then-branch-clause-alike g t c =
    let r = g.H.Held.rules c.args.held.now in let held = g.H.Held.held c.args.held.now in
    ok_weaker c.tree_is_alike-then-branch.result _ _ (λ b h yes x y follows. subst (IsAlike r held x y) (sym c.in-Table.is) (alike_table r held x y c.in-Table.rows c.in-Table.last
    (subst (AllByRecursion (IsRowAlike r held x y)) c.as_slice-in-Table.ensures (c.in_ok-rows_alike-in-Table.ensures.alike c.if-branch.true x y follows))
    (subst (IsAlike r held x y) c.get-then-branch.ensures (h yes x y (subst (λ xs. Follows r held xs c.args.here.now c.args.there.now x y) (sym c.in_ok-rows_alike-in-Table.ensures.stay) follows))))) c.tree_is_alike-then-branch.ensures.alike

pub row_is_alike-returns-then-branch-clause-alike : goal.row_is_alike-returns-then-branch-clause-alike
row_is_alike-returns-then-branch-clause-alike g t c =
    let r = g.H.Held.rules c.args.held.now in let held = g.H.Held.held c.args.held.now in
    ok_weaker c.tree_is_alike-then-branch.result _ _ (λ b h yes x y follows. record {
      cond = c.in_ok-tree_is_alike.ensures.alike c.if-branch.true x y follows;
      value = h yes x y (subst (λ xs. Follows r held xs c.args.here.now c.args.there.now x y) (sym c.in_ok-tree_is_alike.ensures.stay) follows);
    }) c.tree_is_alike-then-branch.ensures.alike

pub are_alike-loop-tree-preserved : goal.are_alike-loop-tree-preserved
are_alike-loop-tree-preserved g t c =
    let r = g.H.Held.rules c.args.held.now in let held = g.H.Held.held c.args.held.now in (
      c.in_ok-tree_is_alike.ensures.stay ∙ c.loop-tree.invariant.0,
      agree_more r held c.args.hidden.now c.loop-tree.hidden c.args.here.now c.args.there.now c.loop-tree.invariant.0 c.args.trees.now c.loop-tree.tree-index c.tree-item.result c.loop-tree-test.true c.tree-item.is
          c.loop-tree.invariant.1 (c.in_ok-tree_is_alike.ensures.alike c.if-not-branch.false),
    )

pub rows_alike-loop-row-preserved : goal.rows_alike-loop-row-preserved
rows_alike-loop-row-preserved g t c =
    let r = g.H.Held.rules c.args.held.now in let held = g.H.Held.held c.args.held.now in (
      c.in_ok-row_is_alike.ensures.stay ∙ c.loop-row.invariant.0,
      agree_rows_more r held c.args.hidden.now c.loop-row.hidden c.args.here.now c.args.there.now c.loop-row.invariant.0 c.args.rows.now c.loop-row.row-index c.row-item.result c.loop-row-test.true c.row-item.is
          c.loop-row.invariant.1 (c.in_ok-row_is_alike.ensures.alike c.if-not-branch.false),
    )
