use Rattle.std.proofs.Common.{◌≡◌, [], ◌∷◌, ◌++◌, length, sym, ◌∙◌, ap, subst, arith}
use Rattle.std.proofs.Math.Path.{fun_ext}
use Rattle.std.proofs.lemmas.Grind.{pieces}
use Rattle.std.proofs.lemmas.Result.{on_ok_weaker}
use Rattle.opa_cells.specs.Instances.{named}
use Rattle.opa_case.specs.Shapes.{shape_of}
use Rattle.opa_case.specs.declared.question.Question.TheVariants as question
use Rattle.opa_mean.specs.Gathering.{names_reads, inst_reads, over_reads, Gathers}
use Rattle.opa_mean.specs.Places.{place, owner_of}
use Rattle.opa_mean.specs.Reads.{reads, row_reads, at_place_reads, listed_reads, trees_reads, rows_reads}
use Rattle.opa_mean.proofs.Gathered.{same-Attr, same-Table, gathers_as, gathers_none, gathers_all, gathers_both, gathers_next, gathers_here, listed_next}
use Rattle.opa_mean.proofs.ReadLaws.{no_tree_reads}
use Rattle.opa_mean.proofs.gathering.+gathering.Goals as goal

pub gather_all-loop-tree-preserved : goal.gather_all-loop-tree-preserved
gather_all-loop-tree-preserved g t c =
    let s = shape_of c.args.model.now in let m = (g.K.Look.looks c.args.look.now).members in let up = (g.K.Look.looks c.args.look.now).container in
    gathers_next c.args.enclosing.now c.args.passed.now (reads s m up) c.args.trees.now c.loop-tree.tree-index c.tree-item.result c.args.found.now c.loop-tree.found c.gather_once.new.found c.loop-tree-test.true c.tree-item.is c.loop-tree.invariant c.in_ok-gather_once.ensures

pub gather_at-returns-in-Some : goal.gather_at-returns-in-Some
gather_at-returns-in-Some g t c =
    let s = shape_of c.args.model.now in let m = (g.K.Look.looks c.args.look.now).members in let up = (g.K.Look.looks c.args.look.now).container in
    let r = c.args.rel in let i = c.args.inst.now in let es = c.args.parts.now in let enclosing = c.args.enclosing.now in let q = question.Members r i in
    let middle = c.ask_list.new.found in let new = c.gather_listed.new.found in let t = s.target r in let names = c.in-Some.names.now in
    on_ok_weaker c.gather_listed.result
    (λ h. gathers_as enclosing [] (λ e. q ∷ names_reads s m up t es names e) (inst_reads s m up r es i) c.args.found.now new
    (sym (ap (λ o e. q ∷ listed_reads o (λ n. trees_reads s m up es (named t n ∷ e))) c.in-Some.ensures))
    (gathers_both enclosing [] (λ e. q ∷ []) (names_reads s m up t es names) c.args.found.now middle new (gathers_all enclosing [] (λ e. q ∷ []) c.args.found.now middle c.in_ok-ask_list.ensures)
    (subst (λ ns. Gathers (names_reads s m up t es ns) enclosing [] middle new) c.as_slice-listed.ensures
    (subst (λ k. Gathers (names_reads s m up k es c.as_slice-listed.result.now) enclosing [] middle new) c.target_of-target.ensures h))))
    c.gather_listed.ensures

pub gather_listed-returns-then-is_empty : goal.gather_listed-returns-then-is_empty
gather_listed-returns-then-is_empty g t c =
    let s = shape_of c.args.model.now in let m = (g.K.Look.looks c.args.look.now).members in let up = (g.K.Look.looks c.args.look.now).container in
    let none : length c.args.trees.now ≡ 0 = search (pieces, arith) in
    gathers_as c.args.enclosing.now [] (λ e. []) (names_reads s m up c.args.target c.args.trees.now c.args.names.now) c.args.found.now c.args.found.now
    (fun_ext (λ e. no_tree_reads s m up c.args.trees.now c.args.target c.args.names.now e none)) (gathers_none c.args.enclosing.now [] c.args.found.now)

pub gather_listed-loop-name-preserved : goal.gather_listed-loop-name-preserved
gather_listed-loop-name-preserved g t c =
    let s = shape_of c.args.model.now in let m = (g.K.Look.looks c.args.look.now).members in let up = (g.K.Look.looks c.args.look.now).container in
    let es = c.args.trees.now in let middle = c.loop-name.found in let new = c.gather_all.new.found in
    listed_next s m up c.args.target es c.args.enclosing.now c.args.names.now c.loop-name.name-index c.name-item.result c.args.found.now middle new c.loop-name.last c.in_ok-inner.inner
    c.loop-name-test.true c.name-item.is c.in_ok-inner.ensures c.loop-name.invariant
    (subst (λ last. Gathers (trees_reads s m up es) c.in_ok-inner.inner last middle new) c.as_slice-in-loop-name.ensures
    (subst (λ inner. Gathers (trees_reads s m up es) inner c.as_slice-in-loop-name.result.now middle new) c.as_slice.ensures c.in_ok-gather_all.ensures))

pub gather_once-returns-in-Some : goal.gather_once-returns-in-Some
gather_once-returns-in-Some g t c =
    let s = shape_of c.args.model.now in let m = (g.K.Look.looks c.args.look.now).members in let up = (g.K.Look.looks c.args.look.now).container in
    let a = c.in-Attr.attr in let enclosing = c.args.enclosing.now in let passed = c.args.passed.now in let old = c.args.found.now in let new = c.ask_line.new.found in
    on_ok_weaker c.ask_line.result
    (λ e. gathers_as enclosing passed (λ around. at_place_reads (place up around (owner_of s a)) (λ i. question.Attr a i ∷ [])) (reads s m up c.args.tree.now) old new (ap (reads s m up) c.in-Attr.is ∙ same-Attr s m up a)
    (gathers_all enclosing passed (λ around. at_place_reads (place up around (owner_of s a)) (λ i. question.Attr a i ∷ [])) old new
    (e ∙ ap (λ o. old ++ at_place_reads o (λ i. question.Attr a i ∷ [])) (c.in-Some.ensures ∙ ap (place up enclosing) c.owner_of.ensures))))
    c.ask_line.ensures

pub gather_once-returns-in_ok-gather_rows-in-Table : goal.gather_once-returns-in_ok-gather_rows-in-Table
gather_once-returns-in_ok-gather_rows-in-Table g t c =
    let s = shape_of c.args.model.now in let m = (g.K.Look.looks c.args.look.now).members in let up = (g.K.Look.looks c.args.look.now).container in
    let rs = c.in-Table.rows in let last = c.in-Table.last in let enclosing = c.args.enclosing.now in let passed = c.args.passed.now in let old = c.args.found.now in let middle = c.gather_rows.new.found in let new = c.gather_once.new.found in
    on_ok_weaker c.gather_once.result
    (λ h. gathers_as enclosing passed (λ e. rows_reads s m up rs e ++ reads s m up last e) (reads s m up c.args.tree.now) old new (ap (reads s m up) c.in-Table.is ∙ same-Table s m up rs last)
    (gathers_both enclosing passed (rows_reads s m up rs) (reads s m up last) old middle new
    (subst (λ xs. Gathers (rows_reads s m up xs) enclosing passed old middle) c.as_slice.ensures c.in_ok-gather_rows-in-Table.ensures)
    (subst (λ x. Gathers (reads s m up x) enclosing passed middle new) c.get.ensures h)))
    c.gather_once.ensures

pub gather_over-returns-in-Some : goal.gather_over-returns-in-Some
gather_over-returns-in-Some g t c =
    let s = shape_of c.args.model.now in let m = (g.K.Look.looks c.args.look.now).members in let up = (g.K.Look.looks c.args.look.now).container in
    let r = c.args.rel in let es = c.args.parts.now in let enclosing = c.args.enclosing.now in let i = c.in-Some.inst.now in
    on_ok_weaker c.gather_at.result
    (gathers_here enclosing c.args.passed.now (inst_reads s m up r es i) (over_reads s m up r es) c.args.found.now c.gather_at.new.found
    (sym (ap (λ o. at_place_reads o (λ j. inst_reads s m up r es j enclosing)) (c.in-Some.ensures ∙ ap (place up enclosing) c.source_of.ensures))))
    c.gather_at.ensures

pub gather_rows-loop-row-preserved : goal.gather_rows-loop-row-preserved
gather_rows-loop-row-preserved g t c =
    let s = shape_of c.args.model.now in let m = (g.K.Look.looks c.args.look.now).members in let up = (g.K.Look.looks c.args.look.now).container in
    let enclosing = c.args.enclosing.now in let passed = c.args.passed.now in let old = c.loop-row.found in let middle = c.gather_once.new.found in let new = c.gather_once-in-loop-row.new.found in
    gathers_next enclosing passed (row_reads s m up) c.args.rows.now c.loop-row.row-index c.row-item.result c.args.found.now old new c.loop-row-test.true c.row-item.is c.loop-row.invariant
    (gathers_both enclosing passed (reads s m up c.row-item.result.cond) (reads s m up c.row-item.result.value) old middle new c.in_ok-gather_once.ensures c.in_ok-gather_once-2.ensures)
