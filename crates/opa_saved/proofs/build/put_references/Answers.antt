use Rattle.std.proofs.Common.{◌++◌, ◌∷◌, [], ℕ, map, take, sym, ap, subst, ◌∙◌}
use Rattle.std.specs.List.{AllByRecursion}
use Rattle.std.proofs.lemmas.List.{take_more, take_all}
use denote.Ref.{Bor}
use Rattle.opa_cells.specs.declared.instance.InstanceId.{InstanceId}
use Rattle.opa_cells.specs.Rows.{seen}
use Rattle.opa_case.specs.Live.{Names}
use Rattle.opa_case.specs.Shapes.{shape_of}
use Rattle.opa_case.proofs.Shaped.{shape_is}
use Rattle.opa_saved.specs.Building.{Agrees}
use Rattle.opa_saved.proofs.PutLaws.{all_step, has_all}
use Rattle.opa_saved.proofs.build.put_references.Goals as goal

pub loop-number-preserved : goal.loop-number-preserved
loop-number-preserved c =
    let items = c.deref-number-items.result.now in
    let k = c.loop-number.number-index in
    let x = c.loop-number-item.result in
    let all = c.args.lists.now in
    let old = c.loop-number.case in
    let new = c.put_one_reference.new.case in
    let step = c.in_ok-put_one_reference.ensures in
    record {
      some = step.some;
      keeps = λ q i h. step.keeps q i (c.loop-number.invariant.keeps q i h);
      done =
          all_step (λ (cell : ℕ × Bor InstanceId × Bor Names). Agrees all old cell.0 cell.1.now) (λ (cell : ℕ × Bor InstanceId × Bor Names). Agrees all new cell.0 cell.1.now)
          (take k items) _ x (take_more items k x c.loop-number-test.true ∙ ap (λ y. take k items ++ y ∷ []) (sym c.loop-number-item.is))
          (λ cell h. step.keeps cell.0 cell.1.now h) c.loop-number.invariant.done step.here;
    }

pub returns-clause-is : goal.returns-clause-is
returns-clause-is c =
    let m = c.args.model.now in
    let items = c.deref-number-items.result.now in
    has_all (shape_of m) c.args.ruled.now (shape_is m c.entity_count-count.ensures.form) c.args.lists.now c.requires.taken c.loop-number.case c.loop-number.invariant.some
    items (ap (map seen) c.deref-number-items.ensures.value ∙ c.in_ok-cells.ensures)
    (subst (AllByRecursion (λ (cell : ℕ × Bor InstanceId × Bor Names). Agrees c.args.lists.now c.loop-number.case cell.0 cell.1.now)) (take_all c.loop-number.number-index items c.loop-number-test.false) c.loop-number.invariant.done)
