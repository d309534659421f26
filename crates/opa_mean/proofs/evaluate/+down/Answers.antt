use Rattle.std.proofs.Common.{◌∷◌, ◌++◌, [], ◌∙◌, map, sym, ap, arith}
use Rattle.opa_case.specs.Shapes.{shape_of}
use Rattle.opa_cells.specs.Instances.{named}
use Rattle.opa_value.specs.Truth.{all_of, any_of, strict}
use Rattle.opa_window.specs.Days.{over_days}
use Rattle.opa_mean.specs.Meaning.{value, each, item}
use Rattle.opa_mean.specs.Operations.{op_of}
use Rattle.opa_mean.proofs.Values.{value-All, value-Any, value-Op, each-map, over_more, items_more, ok_same, three_are, spanned}
use Rattle.opa_mean.proofs.evaluate.+down.Goals as goal

pub evaluate-returns-in_ok-values-in-All : goal.evaluate-returns-in_ok-values-in-All
evaluate-returns-in_ok-values-in-All g t c =
    let s = shape_of c.args.model.now in let l = g.K.Look.looks c.args.look.now in
    c.all_of.ensures ∙ ap all_of (c.deref.ensures.value ∙ c.in_ok-values-in-All.ensures ∙ ap (map (λ e. value s l e c.args.enclosing.now c.args.day)) c.as_slice.ensures)
    ∙ sym (value-All s l c.in-All.parts c.args.enclosing.now c.args.day) ∙ ap (λ e. value s l e c.args.enclosing.now c.args.day) (sym c.in-All.is)

pub evaluate-returns-in_ok-values-in-Any : goal.evaluate-returns-in_ok-values-in-Any
evaluate-returns-in_ok-values-in-Any g t c =
    let s = shape_of c.args.model.now in let l = g.K.Look.looks c.args.look.now in
    c.any_of.ensures ∙ ap any_of (c.deref-in-Any.ensures.value ∙ c.in_ok-values-in-Any.ensures ∙ ap (map (λ e. value s l e c.args.enclosing.now c.args.day)) c.as_slice-in-Any.ensures)
    ∙ sym (value-Any s l c.in-Any.parts c.args.enclosing.now c.args.day) ∙ ap (λ e. value s l e c.args.enclosing.now c.args.day) (sym c.in-Any.is)

pub evaluate-returns-in_ok-values-in-Op : goal.evaluate-returns-in_ok-values-in-Op
evaluate-returns-in_ok-values-in-Op g t c =
    let s = shape_of c.args.model.now in let l = g.K.Look.looks c.args.look.now in
    ok_same c.operated.result _ _
    (ap (strict (op_of c.in-Op.kind)) (c.deref-in-Op.ensures.value ∙ c.in_ok-values-in-Op.ensures ∙ ap (map (λ e. value s l e c.args.enclosing.now c.args.day)) c.as_slice-in-Op.ensures)
    ∙ sym (value-Op s l c.in-Op.kind c.in-Op.parts c.args.enclosing.now c.args.day) ∙ ap (λ e. value s l e c.args.enclosing.now c.args.day) (sym c.in-Op.is))
    c.operated.ensures

pub evaluate_days-loop-day-preserved : goal.evaluate_days-loop-day-preserved
evaluate_days-loop-day-preserved g t c =
    let f = value (shape_of c.args.model.now) (g.K.Look.looks c.args.look.now) c.args.tree.now c.args.enclosing.now in (
      c.in_ok-add.ensures ∙ ap (λ vs. vs ++ c.in_ok-value.value ∷ []) c.loop-day.invariant.0 ∙ ap (λ v. over_days f c.args.span.0 c.loop-day.day ++ v ∷ []) (c.in_ok-value.ensures ∙ ap f c.new.ensures)
          ∙ sym (over_more f c.args.span.0 c.loop-day.day c.loop-day.invariant.1),
      omega (arith, c.loop-day.invariant.1),
      omega (arith, c.loop-day-test.true, c.end.ensures.value),
    )

pub evaluate_items-loop-name-preserved : goal.evaluate_items-loop-name-preserved
evaluate_items-loop-name-preserved g t c =
    let s = shape_of c.args.model.now in let l = g.K.Look.looks c.args.look.now in
    let inner = named c.args.target c.name-item.result ∷ c.args.enclosing.now in
    items_more (λ n. item c.args.quant (each (map (value s l) c.args.trees.now) (named c.args.target n ∷ c.args.enclosing.now) c.args.day)) c.args.names.now c.loop-name.name-index c.name-item.result c.loop-name.items.items _ c.in_ok-item.field-0
    c.loop-name-test.true c.name-item.is c.loop-name.invariant c.in_ok-add.ensures
    (c.in_ok-item.ensures ∙ ap (item c.args.quant) (c.deref.ensures.value ∙ c.in_ok-values.ensures ∙ ap (λ es. map (λ e. value s l e es c.args.day) c.args.trees.now) (c.as_slice.ensures ∙ c.in_ok-inner.ensures) ∙ sym (each-map (value s l) c.args.trees.now inner c.args.day)))

pub evaluate_window-returns-in_ok-end-in-len3 : goal.evaluate_window-returns-in_ok-end-in-len3
evaluate_window-returns-in_ok-end-in-len3 g t c =
    let s = shape_of c.args.model.now in let l = g.K.Look.looks c.args.look.now in
    ok_same c.evaluate_between.result _ _
    (spanned s l c.args.kind c.args.trees.now c.start-item.result c.end-item.result c.x-item-then-trees-lt4.result c.in_ok-start-in-len3.start c.in_ok-end-in-len3.end c.args.enclosing.now c.args.day
    (three_are c.args.trees.now _ _ _ c.in-len3.len_at_least c.in-len3.len_below c.start-item.is c.end-item.is c.x-item-then-trees-lt4.is) (sym c.has_span.ensures ∙ c.if-has_span.true) c.in_ok-start-in-len3.ensures c.in_ok-end-in-len3.ensures)
    c.evaluate_between.ensures
