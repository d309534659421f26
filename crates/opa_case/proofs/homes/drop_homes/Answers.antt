use Rattle.std.proofs.Common.{ap, sym, ◌∙◌, take, ◌++◌, ◌∷◌, [], None, cond}
use Rattle.std.specs.FinMap.{FinMap}
use Rattle.std.proofs.lemmas.List.{take_more}
use Rattle.opa_cells.specs.Keys.{cell_cmp}
use Rattle.opa_cells.specs.declared.instance.InstanceId.{InstanceId}
use Rattle.opa_case.specs.Homes.{home_of}
use Rattle.opa_case.specs.Live.{Population}
use Rattle.opa_case.specs.Turns.{is_among}
use Rattle.opa_case.proofs.Housing.{one_taken}
use Rattle.opa_case.proofs.homes.drop_homes.Goals as goal

pub loop-inst-preserved : goal.loop-inst-preserved
loop-inst-preserved c i =
    let x = c.loop-inst-item.result in
    let k = c.loop-inst.inst-index in
    ap (λ (h : FinMap cell_cmp InstanceId). home_of h i) c.remove.ensures
    ∙ one_taken _ (take k c.args.gone.now) x i _ (c.loop-inst.invariant i)
    ∙ ap (λ (xs : Population). cond (is_among xs i) None (home_of c.args.homes.now i)) (ap (λ y. take k c.args.gone.now ++ y ∷ []) c.loop-inst-item.is ∙ sym (take_more c.args.gone.now k x c.loop-inst-test.true))
