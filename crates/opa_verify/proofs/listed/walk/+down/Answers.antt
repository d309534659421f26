use Rattle.std.proofs.Common.{◌∷◌, ◌∙◌, ◌-◌, Some, length, map, refl, sym, ap, arith}
use Rattle.opa_io.proofs.Places.{take_whole}
use Rattle.opa_value.specs.Truth.{not_of, strict}
use Rattle.opa_cells.specs.Instances.{named}
use Rattle.opa_mean.specs.Meaning.{certain_of, known_of}
use Rattle.opa_mean.specs.Operations.{op_of}
use Rattle.opa_verify.specs.Listed.Shades.{mapped, joined, all_shade, any_shade, item_shade, table_shade, shade}
use Rattle.opa_verify.specs.Listed.ShadeLines.{shade_at, shades_at}
use Rattle.opa_verify.specs.Listed.Walks.{tree_shades, item_shades_at, row_shading, over_seen_at}
use Rattle.opa_verify.proofs.listed.Walking.{told, each, shade-Const, shade-Attr, shade-All, shade-Any, shade-Not, shade-Op, shade-Certain, shade-Known, shade-Over, shade-Window, shade-Rolling, shade-Table, lines_more, lines_told, rolled_alike, rows_start, rows_next}
use Rattle.opa_line.proofs.Zipping.{ok_weaker}
use Rattle.opa_verify.proofs.listed.Keeping.{restands_too}
use Rattle.opa_verify.proofs.listed.WindowKinds.{window_stands}
use Rattle.opa_verify.proofs.listed.walk.+down.Goals as goal

pub shade_items-loop-name-init : goal.shade_items-loop-name-init
shade_items-loop-name-init g t c = λ known. (λ d lt. ap (λ ls. shades_at ls d) c.new-items.ensures.items, known)

pub shade_items-loop-name-preserved : goal.shade_items-loop-name-preserved
shade_items-loop-name-preserved g t c =
    let s = g.K.Sheet.shape c.args.sheet.now in let k = g.K.Sheet.listing c.args.sheet.now in
    λ known. let so_far = c.loop-name.invariant known in let lines = c.in_ok-lines.ensures so_far.1 in (
      lines_more (λ n d. item_shade c.args.quant (tree_shades s k c.args.trees.now (named c.args.target n ∷ c.args.enclosing.now) d)) c.args.names.now c.loop-name.name-index c.name-item.result c.loop-name.items.items _ c.in_ok-item.item
          c.loop-name-test.true c.name-item.is so_far.0 c.in_ok-add.ensures
          (λ d lt. c.in_ok-item.ensures d lt ∙ ap Some (ap (item_shade c.args.quant) (ap (λ ls. shades_at ls d) c.deref.ensures.value ∙ lines.0 d lt ∙ ap (λ en. tree_shades s k c.args.trees.now en d) (c.as_slice.ensures ∙ c.in_ok-inner.ensures)))),
      lines.1,
    )

pub shade_items-returns : goal.shade_items-returns
shade_items-returns g t c =
    let s = g.K.Sheet.shape c.args.sheet.now in let k = g.K.Sheet.listing c.args.sheet.now in
    λ known. let done = c.loop-name.invariant known in (λ d lt. done.0 d lt ∙ ap (λ ns. item_shades_at s k c.args.quant c.args.target ns c.args.trees.now c.args.enclosing.now d) (take_whole c.args.names.now c.loop-name.name-index c.loop-name-test.false), done.1)

pub shade_tree-returns-in-Const : goal.shade_tree-returns-in-Const
shade_tree-returns-in-Const g t c =
    let s = g.K.Sheet.shape c.args.sheet.now in let k = g.K.Sheet.listing c.args.sheet.now in
    restands_too c.there_line.result _ _ _ _ (λ known. (λ d lt. sym (ap (λ e. shade s k e c.args.enclosing.now d) c.in-Const.is ∙ shade-Const s k c.in-Const.value c.args.enclosing.now d), known)) c.there_line.ensures

pub shade_tree-returns-in-Attr : goal.shade_tree-returns-in-Attr
shade_tree-returns-in-Attr g t c =
    let s = g.K.Sheet.shape c.args.sheet.now in let k = g.K.Sheet.listing c.args.sheet.now in
    restands_too c.attribute.result _ _ _ _ (λ known. (λ d lt. sym (ap (λ e. shade s k e c.args.enclosing.now d) c.in-Attr.is ∙ shade-Attr s k c.in-Attr.attr c.args.enclosing.now d), known)) c.attribute.ensures

pub shade_tree-returns-in_ok-lines-in-All : goal.shade_tree-returns-in_ok-lines-in-All
shade_tree-returns-in_ok-lines-in-All g t c =
    let s = g.K.Sheet.shape c.args.sheet.now in let k = g.K.Sheet.listing c.args.sheet.now in
    restands_too c.decided_line.result _ _ _ _ (λ known. let was = c.in_ok-lines-in-All.ensures known in (
      λ d lt. ap all_shade (lines_told s k c.args.enclosing.now _ _ c.in-All.parts _ c.deref.ensures.value was.0 c.as_slice.ensures d lt)
          ∙ sym (ap (λ e. shade s k e c.args.enclosing.now d) c.in-All.is ∙ shade-All s k c.in-All.parts c.args.enclosing.now d),
      was.1,
    )) c.decided_line.ensures

pub shade_tree-returns-in_ok-lines-in-Any : goal.shade_tree-returns-in_ok-lines-in-Any
shade_tree-returns-in_ok-lines-in-Any g t c =
    let s = g.K.Sheet.shape c.args.sheet.now in let k = g.K.Sheet.listing c.args.sheet.now in
    restands_too c.decided_line-in-Any.result _ _ _ _ (λ known. let was = c.in_ok-lines-in-Any.ensures known in (
      λ d lt. ap any_shade (lines_told s k c.args.enclosing.now _ _ c.in-Any.parts _ c.deref-in-Any.ensures.value was.0 c.as_slice-in-Any.ensures d lt)
          ∙ sym (ap (λ e. shade s k e c.args.enclosing.now d) c.in-Any.is ∙ shade-Any s k c.in-Any.parts c.args.enclosing.now d),
      was.1,
    )) c.decided_line-in-Any.ensures

pub shade_tree-returns-in_ok-line-in-Not : goal.shade_tree-returns-in_ok-line-in-Not
shade_tree-returns-in_ok-line-in-Not g t c =
    let s = g.K.Sheet.shape c.args.sheet.now in let k = g.K.Sheet.listing c.args.sheet.now in
    restands_too c.not_shades.result _ _ _ _ (λ known. let was = c.in_ok-line-in-Not.ensures known in (
      λ d lt. ap (mapped not_of) (told c.in_ok-line-in-Not.line _ was.0 d lt ∙ ap (λ e. shade s k e c.args.enclosing.now d) c.get.ensures)
          ∙ sym (ap (λ e. shade s k e c.args.enclosing.now d) c.in-Not.is ∙ shade-Not s k c.in-Not.part c.args.enclosing.now d),
      was.1,
    )) c.not_shades.ensures

pub shade_tree-returns-in_ok-lines-in-Op : goal.shade_tree-returns-in_ok-lines-in-Op
shade_tree-returns-in_ok-lines-in-Op g t c =
    let s = g.K.Sheet.shape c.args.sheet.now in let k = g.K.Sheet.listing c.args.sheet.now in
    restands_too c.strict_line.result _ _ _ _ (λ known. let was = c.in_ok-lines-in-Op.ensures known in (
      λ d lt. ap (joined (strict (op_of c.in-Op.kind))) (lines_told s k c.args.enclosing.now _ _ c.in-Op.parts _ c.deref-in-Op.ensures.value was.0 c.as_slice-in-Op.ensures d lt)
          ∙ sym (ap (λ e. shade s k e c.args.enclosing.now d) c.in-Op.is ∙ shade-Op s k c.in-Op.kind c.in-Op.parts c.args.enclosing.now d),
      was.1,
    )) c.strict_line.ensures

pub shade_tree-returns-in_ok-line-in-Certain : goal.shade_tree-returns-in_ok-line-in-Certain
shade_tree-returns-in_ok-line-in-Certain g t c =
    let s = g.K.Sheet.shape c.args.sheet.now in let k = g.K.Sheet.listing c.args.sheet.now in
    restands_too c.certain_shades.result _ _ _ _ (λ known. let was = c.in_ok-line-in-Certain.ensures known in (
      λ d lt. ap (mapped certain_of) (told c.in_ok-line-in-Certain.line _ was.0 d lt ∙ ap (λ e. shade s k e c.args.enclosing.now d) c.get-in-Certain.ensures)
          ∙ sym (ap (λ e. shade s k e c.args.enclosing.now d) c.in-Certain.is ∙ shade-Certain s k c.in-Certain.part c.args.enclosing.now d),
      was.1,
    )) c.certain_shades.ensures

pub shade_tree-returns-in_ok-line-in-Known : goal.shade_tree-returns-in_ok-line-in-Known
shade_tree-returns-in_ok-line-in-Known g t c =
    let s = g.K.Sheet.shape c.args.sheet.now in let k = g.K.Sheet.listing c.args.sheet.now in
    restands_too c.known_shades.result _ _ _ _ (λ known. let was = c.in_ok-line-in-Known.ensures known in (
      λ d lt. ap (mapped known_of) (told c.in_ok-line-in-Known.line _ was.0 d lt ∙ ap (λ e. shade s k e c.args.enclosing.now d) c.get-in-Known.ensures)
          ∙ sym (ap (λ e. shade s k e c.args.enclosing.now d) c.in-Known.is ∙ shade-Known s k c.in-Known.part c.args.enclosing.now d),
      was.1,
    )) c.known_shades.ensures

pub shade_tree-returns-in-Over : goal.shade_tree-returns-in-Over
shade_tree-returns-in-Over g t c =
    let s = g.K.Sheet.shape c.args.sheet.now in let k = g.K.Sheet.listing c.args.sheet.now in
    ok_weaker c.shade_over.result _ _ (λ l h known. let was = h known in (
      λ d lt. was.0 d lt ∙ ap Some (ap (λ es. over_seen_at s k c.in-Over.quant c.in-Over.rel es c.args.enclosing.now d) c.as_slice-in-Over.ensures
          ∙ sym (ap (λ e. shade s k e c.args.enclosing.now d) c.in-Over.is ∙ shade-Over s k c.in-Over.quant c.in-Over.rel c.in-Over.parts c.args.enclosing.now d)),
      was.1,
    )) c.shade_over.ensures

pub shade_tree-returns-in_ok-lines-in-Window : goal.shade_tree-returns-in_ok-lines-in-Window
shade_tree-returns-in_ok-lines-in-Window g t c =
    let s = g.K.Sheet.shape c.args.sheet.now in let k = g.K.Sheet.listing c.args.sheet.now in
    restands_too c.window_shades.result _ _ _ _ (λ known. let was = c.in_ok-lines-in-Window.ensures known in (
      λ d lt. window_stands c.args.enclosing.now c.in-Window.kind c.deref-in-Window.result.now (map (shade s k) c.in-Window.parts)
          (λ e le. lines_told s k c.args.enclosing.now _ _ c.in-Window.parts _ c.deref-in-Window.ensures.value was.0 c.as_slice-in-Window.ensures e le ∙ sym (each s k c.in-Window.parts c.args.enclosing.now e)) d lt
          ∙ sym (ap (λ e. shade s k e c.args.enclosing.now d) c.in-Window.is ∙ shade-Window s k c.in-Window.kind c.in-Window.parts c.args.enclosing.now d),
      was.1,
    )) c.window_shades.ensures

pub shade_tree-returns-in_ok-line-in-Rolling : goal.shade_tree-returns-in_ok-line-in-Rolling
shade_tree-returns-in_ok-line-in-Rolling g t c =
    let s = g.K.Sheet.shape c.args.sheet.now in let k = g.K.Sheet.listing c.args.sheet.now in
    restands_too c.rolling_shades.result _ _ _ _ (λ known. let was = c.in_ok-line-in-Rolling.ensures known in (
      λ d lt. rolled_alike c.in-Rolling.always c.in-Rolling.count (shade_at c.in_ok-line-in-Rolling.line) (shade s k c.in-Rolling.part c.args.enclosing.now)
          (λ e le. told c.in_ok-line-in-Rolling.line _ was.0 e le ∙ ap (λ x. shade s k x c.args.enclosing.now e) c.get-in-Rolling.ensures) d lt
          ∙ sym (ap (λ e. shade s k e c.args.enclosing.now d) c.in-Rolling.is ∙ shade-Rolling s k c.in-Rolling.always c.in-Rolling.count c.in-Rolling.part c.args.enclosing.now d),
      was.1,
    )) c.rolling_shades.ensures

pub shade_tree-returns-in_ok-line-in-Table : goal.shade_tree-returns-in_ok-line-in-Table
shade_tree-returns-in_ok-line-in-Table g t c =
    let s = g.K.Sheet.shape c.args.sheet.now in let k = g.K.Sheet.listing c.args.sheet.now in
    ok_weaker c.shade_rows.result _ _ (λ l h known. let first = c.in_ok-line-in-Table.ensures known in let rows = h first.1 in (
      λ d lt. rows.0 (shade s k c.get-in-Table.result.now) first.0 d lt
          ∙ ap Some (ap (λ rs. table_shade (map (row_shading s k) rs) (shade s k c.get-in-Table.result.now) c.args.enclosing.now d) c.as_slice-in-Table.ensures ∙ ap (λ e. table_shade (map (row_shading s k) c.in-Table.rows) (shade s k e) c.args.enclosing.now d) c.get-in-Table.ensures
          ∙ sym (ap (λ e. shade s k e c.args.enclosing.now d) c.in-Table.is ∙ shade-Table s k c.in-Table.rows c.in-Table.last c.args.enclosing.now d)),
      rows.1,
    )) c.shade_rows.ensures

pub shade_lines-loop-tree-init : goal.shade_lines-loop-tree-init
shade_lines-loop-tree-init g t c = λ known. (λ d lt. ap (λ ls. shades_at ls d) c.new-lines.ensures.items, known)

pub shade_lines-loop-tree-preserved : goal.shade_lines-loop-tree-preserved
shade_lines-loop-tree-preserved g t c =
    let s = g.K.Sheet.shape c.args.sheet.now in let k = g.K.Sheet.listing c.args.sheet.now in
    λ known. let so_far = c.loop-tree.invariant known in let line = c.in_ok-line.ensures so_far.1 in (
      lines_more (λ e d. shade s k e c.args.enclosing.now d) c.args.trees.now c.loop-tree.tree-index c.tree-item.result c.loop-tree.lines.items _ c.in_ok-line.line
          c.loop-tree-test.true c.tree-item.is so_far.0 c.in_ok-add.ensures line.0,
      line.1,
    )

pub shade_lines-returns : goal.shade_lines-returns
shade_lines-returns g t c =
    let s = g.K.Sheet.shape c.args.sheet.now in let k = g.K.Sheet.listing c.args.sheet.now in
    λ known. let done = c.loop-tree.invariant known in (λ d lt. done.0 d lt ∙ ap (λ es. tree_shades s k es c.args.enclosing.now d) (take_whole c.args.trees.now c.loop-tree.tree-index c.loop-tree-test.false), done.1)

pub shade_rows-loop-place-preserved : goal.shade_rows-loop-place-preserved
shade_rows-loop-place-preserved g t c =
    let s = g.K.Sheet.shape c.args.sheet.now in let k = g.K.Sheet.listing c.args.sheet.now in (
      omega (arith, c.loop-place-test.true, c.loop-place.invariant.0),
      λ known. let so_far = c.loop-place.invariant.1 known in let cond = c.in_ok-cond.ensures so_far.1 in let value = c.in_ok-value.ensures cond.1 in (
        (rows_next s k c.args.rows.now c.loop-place.place (c.loop-place.place - 1) c.index-rows-place.result c.args.enclosing.now c.args.behind.now c.in_ok-cond.cond c.in_ok-value.value c.loop-place.line c.in_ok-line-2.line
            (omega (arith, c.loop-place-test.true)) c.index-rows-place.is (c.loop-place.invariant.0, so_far.0) cond.0 value.0 c.in_ok-line-2.ensures).1,
        value.1,
      ),
    )

pub shade_rows-loop-place-preserved-in_ok-line-2 : goal.shade_rows-loop-place-preserved-in_ok-line-2
shade_rows-loop-place-preserved-in_ok-line-2 g t c =
    let s = g.K.Sheet.shape c.args.sheet.now in let k = g.K.Sheet.listing c.args.sheet.now in (
      omega (arith, c.loop-place-test.true, c.loop-place.invariant.0),
      λ known. let so_far = c.loop-place.invariant.1 known in let cond = c.in_ok-cond.ensures so_far.1 in let value = c.in_ok-value.ensures cond.1 in (
        (rows_next s k c.args.rows.now c.loop-place.place (c.loop-place.place - 1) c.index-rows-place.result c.args.enclosing.now c.args.behind.now c.in_ok-cond.cond c.in_ok-value.value c.loop-place.line c.in_ok-line-2.line
            (omega (arith, c.loop-place-test.true)) c.index-rows-place.is (c.loop-place.invariant.0, so_far.0) cond.0 value.0 c.in_ok-line-2.ensures).1,
        value.1,
      ),
    )

pub shade_among-returns-in_ok-note-in-None : goal.shade_among-returns-in_ok-note-in-None
shade_among-returns-in_ok-note-in-None g t c =
    let s = g.K.Sheet.shape c.args.sheet.now in let k = g.K.Sheet.listing c.args.sheet.now in
    λ known. let was = c.in_ok-line-in-None.ensures known in (was.0, c.in_ok-note-in-None.ensures s k was.0 was.1)

pub shade_rows-loop-place-init : goal.shade_rows-loop-place-init
shade_rows-loop-place-init g t c =
    let s = g.K.Sheet.shape c.args.sheet.now in let k = g.K.Sheet.listing c.args.sheet.now in
    let start = rows_start s k c.args.rows.now (length c.args.rows.now) c.args.enclosing.now c.args.behind.now c.in_ok-line.line refl c.in_ok-line.ensures in (start.0, λ known. (start.1, known))
