use Rattle.std.proofs.Common.{ap, sym, subst, ◌∙◌, take, ◌++◌, ◌∷◌, [], Some, cond}
use Rattle.std.specs.FinMap.{FinMap, insert}
use Rattle.std.proofs.lemmas.List.{take_more}
use Rattle.opa_io.proofs.Results.{always_on_err}
use Rattle.opa_cells.specs.Keys.{cell_cmp}
use Rattle.opa_cells.specs.declared.instance.InstanceId.{InstanceId}
use Rattle.opa_case.specs.Homes.{home_of}
use Rattle.opa_case.specs.Live.{Population}
use Rattle.opa_case.specs.Turns.{is_among}
use Rattle.opa_case.proofs.Housing.{one_set, first_set, Leaves}
use Rattle.opa_case.proofs.homes.insert_homes.Goals as goal

pub returns-in_err-key-clause-err : goal.returns-in_err-key-clause-err
returns-in_err-key-clause-err c = always_on_err _ (first_set c.args.come.now c.loop-inst.inst-index c.args.homes.now c.loop-inst.homes c.args.container.now c.loop-inst.invariant)

pub returns-in_err-home-clause-err : goal.returns-in_err-home-clause-err
returns-in_err-home-clause-err c = always_on_err _ (first_set c.args.come.now c.loop-inst.inst-index c.args.homes.now c.loop-inst.homes c.args.container.now c.loop-inst.invariant)

pub returns-in_err-insert-clause-err : goal.returns-in_err-insert-clause-err
returns-in_err-insert-clause-err c = always_on_err _ (subst (Leaves c.args.come.now c.args.homes.now) (sym c.in_err-insert.ensures.err) (first_set c.args.come.now c.loop-inst.inst-index c.args.homes.now c.loop-inst.homes c.args.container.now c.loop-inst.invariant))

pub loop-inst-preserved : goal.loop-inst-preserved
loop-inst-preserved c i =
    let x = c.loop-inst-item.result in
    let k = c.loop-inst.inst-index in
    let a : FinMap cell_cmp InstanceId = c.loop-inst.homes in
    ap (λ (h : FinMap cell_cmp InstanceId). home_of h i) (c.in_ok-insert.ensures.ok ∙ ap (λ j. insert a (0, j) c.in_ok-home.home) c.in_ok-key.ensures ∙ ap (λ d. insert a (0, x.0) d) c.in_ok-home.ensures)
    ∙ one_set _ (take k c.args.come.now) x i _ _ (c.loop-inst.invariant i)
    ∙ ap (λ (xs : Population). cond (is_among xs i) (Some c.args.container.now) (home_of c.args.homes.now i)) (ap (λ y. take k c.args.come.now ++ y ∷ []) c.loop-inst-item.is ∙ sym (take_more c.args.come.now k x c.loop-inst-test.true))
