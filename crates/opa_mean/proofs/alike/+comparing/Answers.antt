use Rattle.std.proofs.Common.{◌≡◌, ◌⊎◌, List, [], ◌∷◌, ◌++◌, sym, ◌∙◌, ap, subst}
use Rattle.std.specs.List.{Contains}
use Rattle.std.specs.Prelude.{IsTrue}
use Rattle.std.proofs.lemmas.Result.{IfOk-weaker}
use Rattle.opa_io.proofs.Places.{take_whole}
use Rattle.opa_cells.specs.declared.instance.InstanceId.{InstanceId}
use Rattle.opa_case.specs.Shapes.{shape_of}
use Rattle.opa_mean.specs.Gathering.{AreAlike, over_reads}
use Rattle.opa_mean.specs.Places.{place}
use Rattle.opa_mean.specs.Reads.{reads, trees_reads, rows_reads}
use Rattle.opa_mean.proofs.Comparing.{alike_over, alike_more}
use Rattle.opa_mean.proofs.ReadLaws.{reads-Over}
use Rattle.opa_mean.proofs.alike.+comparing.Goals as goal

pub all_are_alike-returns : goal.all_are_alike-returns
all_are_alike-returns g t c =
    let s = shape_of c.args.model.now in let m = (g.K.Look.looks c.args.look.now).members in let up = (g.K.Look.looks c.args.look.now).container in
    λ whole. subst (λ ts. AreAlike up (trees_reads s m up ts) c.args.bound.now c.args.first.now c.args.second.now) (take_whole c.args.trees.now c.loop-tree.tree-index c.loop-tree-test.false) c.loop-tree.invariant

pub rows_are_alike-returns : goal.rows_are_alike-returns
rows_are_alike-returns g t c =
    let s = shape_of c.args.model.now in let m = (g.K.Look.looks c.args.look.now).members in let up = (g.K.Look.looks c.args.look.now).container in
    λ whole. subst (λ rs. AreAlike up (rows_reads s m up rs) c.args.bound.now c.args.first.now c.args.second.now) (take_whole c.args.rows.now c.loop-row.row-index c.loop-row-test.false) c.loop-row.invariant

pub is_alike-returns-in-Over : goal.is_alike-returns-in-Over
is_alike-returns-in-Over g t c =
    let s = shape_of c.args.model.now in let m = (g.K.Look.looks c.args.look.now).members in let up = (g.K.Look.looks c.args.look.now).container in
    let r = c.in-Over.rel in let es = c.in-Over.parts in let bound = c.args.bound.now in let e = c.args.first.now in let f = c.args.second.now in
    let at : (around : List InstanceId) → reads s m up c.args.tree.now around ≡ over_reads s m up r es around = λ around. ap (λ x. reads s m up x around) c.in-Over.is ∙ reads-Over s m up c.in-Over.field-0 r es around in
    IfOk-weaker c.over_is_alike.result (λ alike. IsTrue alike → AreAlike up (over_reads s m up r c.as_slice.result.now) bound e f) (λ alike. IsTrue alike → AreAlike up (reads s m up c.args.tree.now) bound e f)
    (λ alike h true e' f' follows. at e' ∙ subst (λ xs. AreAlike up (over_reads s m up r xs) bound e f) c.as_slice.ensures (h true) e' f' follows ∙ sym (at f')) c.over_is_alike.ensures

pub over_is_alike-returns-then-has_one_place : goal.over_is_alike-returns-then-has_one_place
over_is_alike-returns-then-has_one_place g t c =
    let s = shape_of c.args.model.now in let m = (g.K.Look.looks c.args.look.now).members in let up = (g.K.Look.looks c.args.look.now).container in
    let r = c.args.rel in let es = c.args.parts.now in let bound = c.args.bound.now in let e = c.args.first.now in let f = c.args.second.now in
    let one : Contains bound (s.source r) ⊎ (place up e (s.source r) ≡ place up f (s.source r)) = subst (λ o. Contains bound o ⊎ (place up e o ≡ place up f o)) c.source_of.ensures (c.has_one_place.ensures c.if-has_one_place.true) in
    IfOk-weaker c.parts_are_alike.result (λ alike. IsTrue alike → AreAlike up (trees_reads s m up es) (bound ++ c.target_of-target.result ∷ []) e f) (λ alike. IsTrue alike → AreAlike up (over_reads s m up r es) bound e f)
    (λ alike h true. alike_over up bound e f s m r es one (subst (λ o. AreAlike up (trees_reads s m up es) (bound ++ o ∷ []) e f) c.target_of-target.ensures (h true))) c.parts_are_alike.ensures

pub parts_are_alike-returns-then-contains : goal.parts_are_alike-returns-then-contains
parts_are_alike-returns-then-contains g t c =
    let s = shape_of c.args.model.now in let m = (g.K.Look.looks c.args.look.now).members in let up = (g.K.Look.looks c.args.look.now).container in
    let reads = trees_reads s m up c.args.parts.now in let bound = c.args.bound.now in let e = c.args.first.now in let f = c.args.second.now in
    IfOk-weaker c.all_are_alike.result (λ alike. IsTrue alike → AreAlike up reads bound e f) (λ alike. IsTrue alike → AreAlike up reads (bound ++ c.args.target ∷ []) e f)
    (λ alike h true. alike_more up bound e f reads (c.args.target ∷ []) (h true)) c.all_are_alike.ensures

pub parts_are_alike-returns : goal.parts_are_alike-returns
parts_are_alike-returns g t c =
    let s = shape_of c.args.model.now in let m = (g.K.Look.looks c.args.look.now).members in let up = (g.K.Look.looks c.args.look.now).container in
    let reads = trees_reads s m up c.args.parts.now in let e = c.args.first.now in let f = c.args.second.now in
    IfOk-weaker c.all_are_alike-2.result (λ alike. IsTrue alike → AreAlike up reads c.as_slice-within.result.now e f) (λ alike. IsTrue alike → AreAlike up reads (c.args.bound.now ++ c.args.target ∷ []) e f)
    (λ alike h true. subst (λ b. AreAlike up reads b e f) (c.as_slice-within.ensures ∙ c.in_ok-inner.ensures) (h true)) c.all_are_alike-2.ensures
