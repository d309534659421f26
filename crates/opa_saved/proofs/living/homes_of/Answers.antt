use Rattle.std.proofs.Common.{sym, ap, ◌∙◌, Some, cond, None, take, ◌++◌, ◌∷◌, []}
use Rattle.std.specs.Option.{option_or}
use Rattle.std.proofs.lemmas.List.{take_more}
use Rattle.opa_cells.specs.Instances.{is_same}
use Rattle.opa_case.specs.Live.{container_of}
use Rattle.opa_saved.proofs.HomeLaws.{one_more}
use Rattle.opa_saved.proofs.living.homes_of.Goals as goal

pub loop-inst-preserved : goal.loop-inst-preserved
loop-inst-preserved c q =
    let x = c.loop-inst-item.result in
    let k = c.loop-inst.inst-index in
    c.in_ok-note.ensures q
    ∙ ap (λ o. option_or o (cond (is_same q x.0) (Some x.1) None)) (c.loop-inst.invariant q)
    ∙ sym (one_more (take k c.args.order.now) x q)
    ∙ ap (λ y. container_of (take k c.args.order.now ++ y ∷ []) q) c.loop-inst-item.is
    ∙ ap (λ xs. container_of xs q) (sym (take_more c.args.order.now k x c.loop-inst-test.true))
