use Rattle.std.proofs.Common.{◌≡◌, ◌-◌, ◌∙◌, ap, sym, ◌++◌, ◌∷◌, [], length, drop, map, reverse, replicate, arith}
use Rattle.std.proofs.lemmas.List.{length-append, length-reverse}
use Rattle.std.specs.Prelude.{flat_map}
use Rattle.std.proofs.lemmas.Result.{on_ok_weaker}
use Rattle.opa_case.specs.Shapes.{shape_of}
use Rattle.opa_code.specs.Codes.{code, row_code, leaving, chosen_rows}
use Rattle.opa_code.specs.declared.node.Decider.TheVariants.{AtFalse, AtTrue}
use Rattle.opa_code.specs.declared.node.Node.TheVariants as node
use Rattle.opa_code.proofs.CodeLaws.{code-Const, code-Attr, code-All, code-Any, code-Not, code-Op, code-Certain, code-Known, code-Over, code-Window, code-Rolling, code-Table}
use Rattle.opa_code.proofs.Backwards.{pushed, one_behind, all_dropped, all_more, leaving_more, rows_more}
use Rattle.opa_code.proofs.gather.+walk.Goals as goal

pub gather-returns-in_ok-push-in-Not : goal.gather-returns-in_ok-push-in-Not
gather-returns-in_ok-push-in-Not t c =
    let s = shape_of c.args.model.now in let old = c.args.nodes.now in let mid = c.push-in-Not.new.self in
    on_ok_weaker c.gather.result (λ e. one_behind (code s c.in-Not.part) (code s c.args.tree.now) (node.Not) (reverse mid) (reverse old) (reverse c.gather.new.nodes) (ap (code s) c.in-Not.is ∙ code-Not s c.in-Not.part)
    (pushed old mid (node.Not) c.in_ok-push-in-Not.ensures.ok) (e ∙ ap (λ x. code s x ++ reverse mid) c.get.ensures)) c.gather.ensures

pub gather-returns-in_ok-push-in-Op : goal.gather-returns-in_ok-push-in-Op
gather-returns-in_ok-push-in-Op t c =
    let s = shape_of c.args.model.now in let old = c.args.nodes.now in let mid = c.push-in-Op.new.self in let parts = c.in-Op.parts in
    on_ok_weaker c.gather_all.result (λ e. one_behind (flat_map (code s) parts) (code s c.args.tree.now) (node.Op c.in-Op.kind (length parts)) (reverse mid) (reverse old) (reverse c.gather_all.new.nodes) (ap (code s) c.in-Op.is ∙ code-Op s c.in-Op.kind parts)
    (pushed old mid (node.Op c.in-Op.kind c.len-in-Op.result) c.in_ok-push-in-Op.ensures.ok ∙ ap (λ k. node.Op c.in-Op.kind k ∷ reverse old) c.len-in-Op.ensures) (e ∙ ap (λ x. flat_map (code s) x ++ reverse mid) c.as_slice.ensures)) c.gather_all.ensures

pub gather-returns-in_ok-push-in-Certain : goal.gather-returns-in_ok-push-in-Certain
gather-returns-in_ok-push-in-Certain t c =
    let s = shape_of c.args.model.now in let old = c.args.nodes.now in let mid = c.push-in-Certain.new.self in
    on_ok_weaker c.gather-in-Certain.result (λ e. one_behind (code s c.in-Certain.part) (code s c.args.tree.now) (node.Certain) (reverse mid) (reverse old) (reverse c.gather-in-Certain.new.nodes) (ap (code s) c.in-Certain.is ∙ code-Certain s c.in-Certain.part)
    (pushed old mid (node.Certain) c.in_ok-push-in-Certain.ensures.ok) (e ∙ ap (λ x. code s x ++ reverse mid) c.get-in-Certain.ensures)) c.gather-in-Certain.ensures

pub gather-returns-in_ok-push-in-Known : goal.gather-returns-in_ok-push-in-Known
gather-returns-in_ok-push-in-Known t c =
    let s = shape_of c.args.model.now in let old = c.args.nodes.now in let mid = c.push-in-Known.new.self in
    on_ok_weaker c.gather-in-Known.result (λ e. one_behind (code s c.in-Known.part) (code s c.args.tree.now) (node.Known) (reverse mid) (reverse old) (reverse c.gather-in-Known.new.nodes) (ap (code s) c.in-Known.is ∙ code-Known s c.in-Known.part)
    (pushed old mid (node.Known) c.in_ok-push-in-Known.ensures.ok) (e ∙ ap (λ x. code s x ++ reverse mid) c.get-in-Known.ensures)) c.gather-in-Known.ensures

pub gather-returns-in_ok-push-in-Window : goal.gather-returns-in_ok-push-in-Window
gather-returns-in_ok-push-in-Window t c =
    let s = shape_of c.args.model.now in let old = c.args.nodes.now in let mid = c.push-in-Window.new.self in let parts = c.in-Window.parts in
    on_ok_weaker c.gather_all-in-Window.result (λ e. one_behind (flat_map (code s) parts) (code s c.args.tree.now) (node.Window c.in-Window.kind (length parts)) (reverse mid) (reverse old) (reverse c.gather_all-in-Window.new.nodes) (ap (code s) c.in-Window.is ∙ code-Window s c.in-Window.kind parts)
    (pushed old mid (node.Window c.in-Window.kind c.len-in-Window.result) c.in_ok-push-in-Window.ensures.ok ∙ ap (λ k. node.Window c.in-Window.kind k ∷ reverse old) c.len-in-Window.ensures) (e ∙ ap (λ x. flat_map (code s) x ++ reverse mid) c.as_slice-in-Window.ensures)) c.gather_all-in-Window.ensures

pub gather-returns-in_ok-push-in-Rolling : goal.gather-returns-in_ok-push-in-Rolling
gather-returns-in_ok-push-in-Rolling t c =
    let s = shape_of c.args.model.now in let old = c.args.nodes.now in let mid = c.push-in-Rolling.new.self in
    on_ok_weaker c.gather-in-Rolling.result (λ e. one_behind (code s c.in-Rolling.part) (code s c.args.tree.now) (node.Rolling c.in-Rolling.always c.in-Rolling.days) (reverse mid) (reverse old) (reverse c.gather-in-Rolling.new.nodes) (ap (code s) c.in-Rolling.is ∙ code-Rolling s c.in-Rolling.always c.in-Rolling.days c.in-Rolling.part)
    (pushed old mid (node.Rolling c.in-Rolling.always c.in-Rolling.days) c.in_ok-push-in-Rolling.ensures.ok) (e ∙ ap (λ x. code s x ++ reverse mid) c.get-in-Rolling.ensures)) c.gather-in-Rolling.ensures

pub gather-returns-in_ok-push-in-All : goal.gather-returns-in_ok-push-in-All
gather-returns-in_ok-push-in-All t c =
    let s = shape_of c.args.model.now in let old = c.args.nodes.now in let mid = c.push-in-All.new.self in let parts = c.in-All.parts in
    on_ok_weaker c.gather_leaving.result (λ h. h (node.All c.len.result) (reverse old) (length-reverse old ∙ sym c.len-behind.ensures) (pushed old mid (node.All c.len.result) c.in_ok-push-in-All.ensures.ok)
    ∙ ap (λ x. leaving AtFalse 0 (map (code s) x) (node.All c.len.result ∷ []) ++ reverse old) c.as_slice-parts.ensures
    ∙ ap (λ k. leaving AtFalse 0 (map (code s) parts) (node.All k ∷ []) ++ reverse old) c.len.ensures
    ∙ ap (λ ys. ys ++ reverse old) (sym (ap (code s) c.in-All.is ∙ code-All s parts))) c.gather_leaving.ensures

pub gather-returns-in_ok-push-in-Any : goal.gather-returns-in_ok-push-in-Any
gather-returns-in_ok-push-in-Any t c =
    let s = shape_of c.args.model.now in let old = c.args.nodes.now in let mid = c.push-in-Any.new.self in let parts = c.in-Any.parts in
    on_ok_weaker c.gather_leaving-in-Any.result (λ h. h (node.Any c.len-in-Any.result) (reverse old) (length-reverse old ∙ sym c.len-behind-in-Any.ensures) (pushed old mid (node.Any c.len-in-Any.result) c.in_ok-push-in-Any.ensures.ok)
    ∙ ap (λ x. leaving AtTrue 0 (map (code s) x) (node.Any c.len-in-Any.result ∷ []) ++ reverse old) c.as_slice-parts-in-Any.ensures
    ∙ ap (λ k. leaving AtTrue 0 (map (code s) parts) (node.Any k ∷ []) ++ reverse old) c.len-in-Any.ensures
    ∙ ap (λ ys. ys ++ reverse old) (sym (ap (code s) c.in-Any.is ∙ code-Any s parts))) c.gather_leaving-in-Any.ensures

pub gather-returns-in_ok-gather_all-in-Over : goal.gather-returns-in_ok-gather_all-in-Over
gather-returns-in_ok-gather_all-in-Over t c =
    let s = shape_of c.args.model.now in let old = c.args.nodes.now in let mid = c.gather_all-in-Over.new.nodes in let parts = c.in-Over.parts in
    let flat = flat_map (code s) parts in let q = c.in-Over.quant in let r = c.in-Over.rel in
    let gathered : reverse mid ≡ flat ++ reverse old = c.in_ok-gather_all-in-Over.ensures ∙ ap (λ x. flat_map (code s) x ++ reverse old) c.as_slice-in-Over.ensures in
    let a = ap length gathered ∙ length-append flat (reverse old) in
    let counted : c.saturating_sub-count.result ≡ length flat = omega (arith, a, length-reverse mid, length-reverse old, c.saturating_sub-count.ensures, c.len-in-Over.ensures, c.len-behind-in-Over.ensures) in
    on_ok_weaker c.push-in-Over.result (λ e. pushed mid c.push-in-Over.new.self (node.Over q r c.source_of-source.result c.target_of-target.result c.saturating_sub-count.result) e
    ∙ ap (λ ys. node.Over q r c.source_of-source.result c.target_of-target.result c.saturating_sub-count.result ∷ ys) gathered
    ∙ ap (λ k. node.Over q r k c.target_of-target.result c.saturating_sub-count.result ∷ (flat ++ reverse old)) c.source_of-source.ensures
    ∙ ap (λ k. node.Over q r (s.source r) k c.saturating_sub-count.result ∷ (flat ++ reverse old)) c.target_of-target.ensures
    ∙ ap (λ k. node.Over q r (s.source r) (s.target r) k ∷ (flat ++ reverse old)) counted
    ∙ ap (λ ys. ys ++ reverse old) (sym (ap (code s) c.in-Over.is ∙ code-Over s q r parts))) c.push-in-Over.ensures.ok

pub gather-returns-in_ok-gather-in-Table : goal.gather-returns-in_ok-gather-in-Table
gather-returns-in_ok-gather-in-Table t c =
    let s = shape_of c.args.model.now in let old = c.args.nodes.now in let rows = c.in-Table.rows in let last = code s c.in-Table.last in
    let here : reverse c.gather-in-Table.new.nodes ≡ last ++ (replicate (length c.as_slice-in-Table.result.now) node.Choose ++ reverse old) =
    c.in_ok-gather-in-Table.ensures ∙ ap (λ x. code s x ++ reverse c.add_choices.new.nodes) c.get-in-Table.ensures
    ∙ ap (λ ys. last ++ ys) (c.in_ok-add_choices-in-Table.ensures ∙ ap (λ n. replicate n node.Choose ++ reverse old) (c.len-in-Table.ensures ∙ sym (ap length c.as_slice-in-Table.ensures))) in
    on_ok_weaker c.gather_rows.result (λ h. h last (reverse old) (length-reverse old ∙ sym c.len-behind-in-Table.ensures) here
    ∙ ap (λ x. chosen_rows (map (row_code s) x) last ++ reverse old) c.as_slice-in-Table.ensures
    ∙ ap (λ ys. ys ++ reverse old) (sym (ap (code s) c.in-Table.is ∙ code-Table s rows c.in-Table.last))) c.gather_rows.ensures

pub gather-returns-in_ok-value-in-Const : goal.gather-returns-in_ok-value-in-Const
gather-returns-in_ok-value-in-Const t c =
    let s = shape_of c.args.model.now in let old = c.args.nodes.now in
    on_ok_weaker c.push.result (λ e. pushed old c.push.new.self (node.Const c.in_ok-value-in-Const.value) e
    ∙ ap (λ v. node.Const v ∷ reverse old) (c.in_ok-value-in-Const.ensures ∙ c.in_ok-copy-in-Const.ensures)
    ∙ ap (λ ys. ys ++ reverse old) (sym (ap (code s) c.in-Const.is ∙ code-Const s c.in-Const.value))) c.push.ensures.ok

pub gather-returns-in-Attr : goal.gather-returns-in-Attr
gather-returns-in-Attr t c =
    let s = shape_of c.args.model.now in let old = c.args.nodes.now in let a = c.in-Attr.attr in
    on_ok_weaker c.push-in-Attr.result (λ e. pushed old c.push-in-Attr.new.self (node.Attr a c.owner_of.result) e
    ∙ ap (λ o. node.Attr a o ∷ reverse old) c.owner_of.ensures
    ∙ ap (λ ys. ys ++ reverse old) (sym (ap (code s) c.in-Attr.is ∙ code-Attr s a))) c.push-in-Attr.ensures.ok

pub gather_all-loop-left-init : goal.gather_all-loop-left-init
gather_all-loop-left-init t c = (ap (λ x. flat_map (code (shape_of c.args.model.now)) x ++ reverse c.args.nodes.now) (sym (all_dropped c.args.trees.now)), omega arith)

pub gather_all-loop-left-preserved : goal.gather_all-loop-left-preserved
gather_all-loop-left-preserved t c =
    let left = c.loop-left.left in (
      all_more (code (shape_of c.args.model.now)) c.index-trees-left.result c.args.trees.now left (left - 1) c.index-trees-left.result (reverse c.loop-left.nodes) (reverse c.gather.new.nodes) (reverse c.args.nodes.now)
          (omega (arith, c.loop-left-test.true)) c.loop-left.invariant.1 c.index-trees-left.is c.loop-left.invariant.0 c.in_ok-gather.ensures,
      (let h = c.loop-left.invariant.1 in omega (arith, h)),
    )

pub gather_all-returns : goal.gather_all-returns
gather_all-returns t c =
    let none : c.loop-left.left ≡ 0 = omega (arith, c.loop-left-test.false) in
    c.loop-left.invariant.0 ∙ ap (λ k. flat_map (code (shape_of c.args.model.now)) (drop k c.args.trees.now) ++ reverse c.args.nodes.now) none

pub gather_leaving-loop-left-init : goal.gather_leaving-loop-left-init
gather_leaving-loop-left-init t c =
    ((λ n below e is. is ∙ ap (λ x. leaving c.args.how (length c.args.trees.now) (map (code (shape_of c.args.model.now)) x) (n ∷ []) ++ below) (sym (all_dropped c.args.trees.now))), omega arith)

pub gather_leaving-loop-left-preserved : goal.gather_leaving-loop-left-preserved
gather_leaving-loop-left-preserved t c =
    let left = c.loop-left.left in let mid = c.push.new.self in (
      (λ n below e is. leaving_more (code (shape_of c.args.model.now)) c.args.how c.index-trees-left.result c.args.trees.now left (left - 1) c.saturating_sub-count.result c.index-trees-left.result (n ∷ []) below (reverse c.loop-left.nodes) (reverse c.gather.new.nodes)
          (omega (arith, c.loop-left-test.true)) c.loop-left.invariant.1 c.index-trees-left.is (c.loop-left.invariant.0 n below e is)
          (omega (arith, e, length-reverse c.loop-left.nodes, c.saturating_sub-count.ensures, c.len.ensures))
          (c.in_ok-gather.ensures ∙ ap (λ ys. code (shape_of c.args.model.now) c.index-trees-left.result ++ ys) (pushed c.loop-left.nodes mid (node.Leave c.args.how (left - 1) c.saturating_sub-count.result) c.in_ok-push.ensures.ok))),
      (let h = c.loop-left.invariant.1 in omega (arith, h)),
    )

pub gather_leaving-returns : goal.gather_leaving-returns
gather_leaving-returns t c n below e is =
    let none : c.loop-left.left ≡ 0 = omega (arith, c.loop-left-test.false) in
    c.loop-left.invariant.0 n below e is ∙ ap (λ k. leaving c.args.how k (map (code (shape_of c.args.model.now)) (drop k c.args.trees.now)) (n ∷ []) ++ below) none

pub gather_rows-loop-left-init : goal.gather_rows-loop-left-init
gather_rows-loop-left-init t c =
    ((λ last below e is. is ∙ ap (λ x. chosen_rows (map (row_code (shape_of c.args.model.now)) x) last ++ (replicate (length c.args.rows.now) node.Choose ++ below)) (sym (all_dropped c.args.rows.now))), omega arith)

pub gather_rows-loop-left-preserved : goal.gather_rows-loop-left-preserved
gather_rows-loop-left-preserved t c =
    let left = c.loop-left.left in (
      (λ last below e is. rows_more (row_code (shape_of c.args.model.now)) c.index-rows-left.result c.args.rows.now left (left - 1) c.saturating_sub-count.result c.index-rows-left.result last below (reverse c.loop-left.nodes) (reverse c.gather_row.new.nodes)
          (omega (arith, c.loop-left-test.true)) c.loop-left.invariant.1 c.index-rows-left.is (c.loop-left.invariant.0 last below e is)
          (omega (arith, e, length-reverse c.loop-left.nodes, c.saturating_sub-count.ensures, c.saturating_sub.ensures, c.len.ensures))
          c.in_ok-gather_row.ensures),
      (let h = c.loop-left.invariant.1 in omega (arith, h)),
    )

pub gather_rows-returns : goal.gather_rows-returns
gather_rows-returns t c last below e is =
    let none : c.loop-left.left ≡ 0 = omega (arith, c.loop-left-test.false) in
    c.loop-left.invariant.0 last below e is ∙ ap (λ k. chosen_rows (map (row_code (shape_of c.args.model.now)) (drop k c.args.rows.now)) last ++ (replicate k node.Choose ++ below)) none
