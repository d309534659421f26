use Rattle.std.proofs.Common.{◌≡◌, ◌∷◌, sym, subst}
use Rattle.std.specs.List.{AllByRecursion}
use Rattle.opa_line.proofs.Zipping.{ok_weaker}
use Rattle.std.specs.Prelude.{Contains}
use Rattle.opa_cells.specs.Instances.{named}
use Rattle.opa_verify.specs.Listed.Ways.{place_seen}
use Rattle.opa_verify.specs.Listed.Keeping.{IsAlike, IsRowAlike}
use Rattle.opa_verify.proofs.listed.Enclosed.{alike_const, alike_attr, alike_all, alike_any, alike_not, alike_op, alike_certain, alike_known, alike_over, alike_window, alike_rolling, alike_table, follows_within}
use Rattle.opa_verify.proofs.listed.alike.+comparing.Goals as goal

pub is_alike-returns-in-Const : goal.is_alike-returns-in-Const
is_alike-returns-in-Const g t c =
    let s = g.K.Sheet.shape c.args.sheet.now in let k = g.K.Sheet.listing c.args.sheet.now in
    λ _ x y follows. subst (IsAlike s k x y) (sym c.in-Const.is) (alike_const s k x y c.in-Const.field-0)

pub is_alike-returns-in-Attr : goal.is_alike-returns-in-Attr
is_alike-returns-in-Attr g t c =
    let s = g.K.Sheet.shape c.args.sheet.now in let k = g.K.Sheet.listing c.args.sheet.now in
    λ yes x y follows. subst (IsAlike s k x y) (sym c.in-Attr.is) (alike_attr s k x y c.in-Attr.attr (subst (λ o. place_seen k.container x o ≡ place_seen k.container y o) c.owner.ensures (follows c.owner.result (c.has_one_place.ensures yes))))

pub is_alike-returns-in-All : goal.is_alike-returns-in-All
is_alike-returns-in-All g t c =
    let s = g.K.Sheet.shape c.args.sheet.now in let k = g.K.Sheet.listing c.args.sheet.now in
    ok_weaker c.are_alike.result _ _ (λ b h yes x y follows. subst (IsAlike s k x y) (sym c.in-All.is) (alike_all s k x y c.in-All.parts (subst (AllByRecursion (IsAlike s k x y)) c.as_slice.ensures (h yes x y follows)))) c.are_alike.ensures

pub is_alike-returns-in-Any : goal.is_alike-returns-in-Any
is_alike-returns-in-Any g t c =
    let s = g.K.Sheet.shape c.args.sheet.now in let k = g.K.Sheet.listing c.args.sheet.now in
    ok_weaker c.are_alike-in-Any.result _ _ (λ b h yes x y follows. subst (IsAlike s k x y) (sym c.in-Any.is) (alike_any s k x y c.in-Any.parts (subst (AllByRecursion (IsAlike s k x y)) c.as_slice-in-Any.ensures (h yes x y follows)))) c.are_alike-in-Any.ensures

pub is_alike-returns-in-Op : goal.is_alike-returns-in-Op
is_alike-returns-in-Op g t c =
    let s = g.K.Sheet.shape c.args.sheet.now in let k = g.K.Sheet.listing c.args.sheet.now in
    ok_weaker c.are_alike-in-Op.result _ _ (λ b h yes x y follows. subst (IsAlike s k x y) (sym c.in-Op.is) (alike_op s k x y c.in-Op.field-0 c.in-Op.parts (subst (AllByRecursion (IsAlike s k x y)) c.as_slice-in-Op.ensures (h yes x y follows)))) c.are_alike-in-Op.ensures

pub is_alike-returns-in-Window : goal.is_alike-returns-in-Window
is_alike-returns-in-Window g t c =
    let s = g.K.Sheet.shape c.args.sheet.now in let k = g.K.Sheet.listing c.args.sheet.now in
    ok_weaker c.are_alike-in-Window.result _ _ (λ b h yes x y follows. subst (IsAlike s k x y) (sym c.in-Window.is) (alike_window s k x y c.in-Window.field-0 c.in-Window.parts (subst (AllByRecursion (IsAlike s k x y)) c.as_slice-in-Window.ensures (h yes x y follows)))) c.are_alike-in-Window.ensures

pub is_alike-returns-in-Not : goal.is_alike-returns-in-Not
is_alike-returns-in-Not g t c =
    let s = g.K.Sheet.shape c.args.sheet.now in let k = g.K.Sheet.listing c.args.sheet.now in
    ok_weaker c.is_alike.result _ _ (λ b h yes x y follows. subst (IsAlike s k x y) (sym c.in-Not.is) (alike_not s k x y c.in-Not.part (subst (IsAlike s k x y) c.get.ensures (h yes x y follows)))) c.is_alike.ensures

pub is_alike-returns-in-Certain : goal.is_alike-returns-in-Certain
is_alike-returns-in-Certain g t c =
    let s = g.K.Sheet.shape c.args.sheet.now in let k = g.K.Sheet.listing c.args.sheet.now in
    ok_weaker c.is_alike-in-Certain.result _ _ (λ b h yes x y follows. subst (IsAlike s k x y) (sym c.in-Certain.is) (alike_certain s k x y c.in-Certain.part (subst (IsAlike s k x y) c.get-in-Certain.ensures (h yes x y follows)))) c.is_alike-in-Certain.ensures

pub is_alike-returns-in-Known : goal.is_alike-returns-in-Known
is_alike-returns-in-Known g t c =
    let s = g.K.Sheet.shape c.args.sheet.now in let k = g.K.Sheet.listing c.args.sheet.now in
    ok_weaker c.is_alike-in-Known.result _ _ (λ b h yes x y follows. subst (IsAlike s k x y) (sym c.in-Known.is) (alike_known s k x y c.in-Known.part (subst (IsAlike s k x y) c.get-in-Known.ensures (h yes x y follows)))) c.is_alike-in-Known.ensures

pub is_alike-returns-in-Rolling : goal.is_alike-returns-in-Rolling
is_alike-returns-in-Rolling g t c =
    let s = g.K.Sheet.shape c.args.sheet.now in let k = g.K.Sheet.listing c.args.sheet.now in
    ok_weaker c.is_alike-in-Rolling.result _ _ (λ b h yes x y follows. subst (IsAlike s k x y) (sym c.in-Rolling.is) (alike_rolling s k x y c.in-Rolling.field-0 c.in-Rolling.field-1 c.in-Rolling.part (subst (IsAlike s k x y) c.get-in-Rolling.ensures (h yes x y follows)))) c.is_alike-in-Rolling.ensures

pub is_alike-returns-in_ok-inner-in-Over : goal.is_alike-returns-in_ok-inner-in-Over
is_alike-returns-in_ok-inner-in-Over g t c =
    let s = g.K.Sheet.shape c.args.sheet.now in let k = g.K.Sheet.listing c.args.sheet.now in let inner = c.as_slice-then-has_one_place-2.result.now in
    ok_weaker c.are_alike-then-has_one_place.result _ _ (λ b h yes x y follows. subst (IsAlike s k x y) (sym c.in-Over.is) (alike_over s k c.in-Over.field-0 c.in-Over.rel c.in-Over.parts x y
    (subst (λ o. place_seen k.container x o ≡ place_seen k.container y o) c.source.ensures (follows c.source.result (c.has_one_place-in-Over.ensures c.if-has_one_place.true)))
    (λ name. subst (λ t. AllByRecursion (IsAlike s k (named t name ∷ x) (named t name ∷ y)) c.in-Over.parts) c.target.ensures
    (subst (AllByRecursion (IsAlike s k (named c.target.result name ∷ x) (named c.target.result name ∷ y))) c.as_slice-then-has_one_place.ensures
    (h yes (named c.target.result name ∷ x) (named c.target.result name ∷ y) (follows_within s k c.args.hidden.now inner c.args.here.now c.args.there.now x y c.target.result name
    (λ o has. c.in_ok-inner-in-Over.ensures o (subst (λ xs. Contains xs o) c.as_slice-then-has_one_place-2.ensures has)) follows)))))) c.are_alike-then-has_one_place.ensures

pub is_alike-returns-then-branch : goal.is_alike-returns-then-branch
is_alike-returns-then-branch g t c =
    let s = g.K.Sheet.shape c.args.sheet.now in let k = g.K.Sheet.listing c.args.sheet.now in
    ok_weaker c.is_alike-then-branch.result _ _ (λ b h yes x y follows. subst (IsAlike s k x y) (sym c.in-Table.is) (alike_table s k x y c.in-Table.rows c.in-Table.last
    (subst (AllByRecursion (IsRowAlike s k x y)) c.as_slice-in-Table.ensures (c.in_ok-rows_alike-in-Table.ensures c.if-branch.true x y follows))
    (subst (IsAlike s k x y) c.get-then-branch.ensures (h yes x y follows)))) c.is_alike-then-branch.ensures
