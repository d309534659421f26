use Rattle.std.proofs.Common.{◌≡◌, ◌∙◌, ap, sym, ◌++◌, ◌∷◌, [], length, arith}
use Rattle.std.specs.Prelude.{flat_map}
use Rattle.std.proofs.lemmas.List.{append-nil, append_assoc}
use Rattle.std.proofs.lemmas.Grind.{pieces}
use Rattle.std.proofs.lemmas.Result.{on_ok_weaker}
use Rattle.opa_cells.specs.Instances.{named}
use Rattle.opa_case.specs.Shapes.{shape_of}
use Rattle.opa_case.specs.declared.question.Question.TheVariants as question
use Rattle.opa_mean.specs.Places.{place}
use Rattle.opa_mean.specs.Reads.{reads, at_place_reads, listed_reads, trees_reads, rows_reads}
use Rattle.opa_mean.proofs.ReadLaws.{reads-Const, reads-Attr, reads-Over, reads-Table, no_tree_reads}
use Rattle.opa_mean.proofs.read.+walk.Goals as goal

pub gather-returns-in-Const : goal.gather-returns-in-Const
gather-returns-in-Const g t c =
    let s = shape_of c.args.model.now in let m = (g.K.Look.looks c.args.look.now).members in let up = (g.K.Look.looks c.args.look.now).container in
    sym (ap (λ qs. c.args.found.now ++ qs) (ap (λ e. reads s m up e c.args.enclosing.now) c.in-Const.is ∙ reads-Const s m up c.in-Const.field-0 c.args.enclosing.now) ∙ append-nil c.args.found.now)

pub gather-returns-in-None : goal.gather-returns-in-None
gather-returns-in-None g t c =
    let s = shape_of c.args.model.now in let m = (g.K.Look.looks c.args.look.now).members in let up = (g.K.Look.looks c.args.look.now).container in
    sym (ap (λ qs. c.args.found.now ++ qs) (ap (λ e. reads s m up e c.args.enclosing.now) c.in-Attr.is ∙ reads-Attr s m up c.in-Attr.attr c.args.enclosing.now
    ∙ ap (λ o. at_place_reads o (λ i. question.Attr c.in-Attr.attr i ∷ [])) (sym (c.in-None.ensures ∙ ap (place up c.args.enclosing.now) c.owner_of.ensures))) ∙ append-nil c.args.found.now)

pub gather-returns-in-None-place_in : goal.gather-returns-in-None-place_in
gather-returns-in-None-place_in g t c =
    let s = shape_of c.args.model.now in let m = (g.K.Look.looks c.args.look.now).members in let up = (g.K.Look.looks c.args.look.now).container in
    sym (ap (λ qs. c.args.found.now ++ qs) (ap (λ e. reads s m up e c.args.enclosing.now) c.in-Over.is ∙ reads-Over s m up c.in-Over.field-0 c.in-Over.rel c.in-Over.parts c.args.enclosing.now
    ∙ ap (λ o. at_place_reads o (λ i. question.Members c.in-Over.rel i ∷ listed_reads (m c.in-Over.rel i) (λ n. trees_reads s m up c.in-Over.parts (named (s.target c.in-Over.rel) n ∷ c.args.enclosing.now)))) (sym (c.in-None-place_in.ensures ∙ ap (place up c.args.enclosing.now) c.source_of.ensures))) ∙ append-nil c.args.found.now)

pub gather-returns-in-Some-members : goal.gather-returns-in-Some-members
gather-returns-in-Some-members g t c =
    let s = shape_of c.args.model.now in let m = (g.K.Look.looks c.args.look.now).members in let up = (g.K.Look.looks c.args.look.now).container in
    let r = c.in-Over.rel in let es = c.in-Over.parts in let enclosing = c.args.enclosing.now in let i = c.in-Some-place_in.inst.now in let names = c.in-Some-members.names.now in
    let q = question.Members r i in
    on_ok_weaker c.gather_listed.result (λ e. e
    ∙ ap (λ qs. qs ++ flat_map (λ n. trees_reads s m up c.as_slice-in-Some-members.result.now (named c.target_of-target.result n ∷ enclosing)) c.as_slice.result.now) c.in_ok-ask_list-in-Some-place_in.ensures
    ∙ append_assoc c.args.found.now (q ∷ []) _
    ∙ ap (λ qs. c.args.found.now ++ q ∷ qs)
    (ap (λ ts. flat_map (λ n. trees_reads s m up ts (named c.target_of-target.result n ∷ enclosing)) c.as_slice.result.now) c.as_slice-in-Some-members.ensures
    ∙ ap (λ k. flat_map (λ n. trees_reads s m up es (named k n ∷ enclosing)) c.as_slice.result.now) c.target_of-target.ensures
    ∙ ap (λ ns. flat_map (λ n. trees_reads s m up es (named (s.target r) n ∷ enclosing)) ns) c.as_slice.ensures
    ∙ ap (λ o. listed_reads o (λ n. trees_reads s m up es (named (s.target r) n ∷ enclosing))) c.in-Some-members.ensures)
    ∙ ap (λ qs. c.args.found.now ++ qs)
    (ap (λ o. at_place_reads o (λ i. question.Members r i ∷ listed_reads (m r i) (λ n. trees_reads s m up es (named (s.target r) n ∷ enclosing)))) (c.in-Some-place_in.ensures ∙ ap (place up enclosing) c.source_of.ensures)
    ∙ sym (reads-Over s m up c.in-Over.field-0 r es enclosing) ∙ ap (λ e. reads s m up e enclosing) (sym c.in-Over.is)))
    c.gather_listed.ensures

pub gather-returns-in_ok-gather_rows-in-Table : goal.gather-returns-in_ok-gather_rows-in-Table
gather-returns-in_ok-gather_rows-in-Table g t c =
    let s = shape_of c.args.model.now in let m = (g.K.Look.looks c.args.look.now).members in let up = (g.K.Look.looks c.args.look.now).container in let enclosing = c.args.enclosing.now in
    on_ok_weaker c.gather.result (λ e. e
    ∙ ap (λ qs. qs ++ reads s m up c.get.result.now enclosing) (c.in_ok-gather_rows-in-Table.ensures ∙ ap (λ rs. c.args.found.now ++ rows_reads s m up rs enclosing) c.as_slice-in-Table.ensures)
    ∙ ap (λ x. (c.args.found.now ++ rows_reads s m up c.in-Table.rows enclosing) ++ reads s m up x enclosing) c.get.ensures
    ∙ append_assoc c.args.found.now (rows_reads s m up c.in-Table.rows enclosing) (reads s m up c.in-Table.last enclosing)
    ∙ ap (λ qs. c.args.found.now ++ qs) (sym (ap (λ e. reads s m up e enclosing) c.in-Table.is ∙ reads-Table s m up c.in-Table.rows c.in-Table.last enclosing))) c.gather.ensures

pub gather_listed-returns-then-is_empty : goal.gather_listed-returns-then-is_empty
gather_listed-returns-then-is_empty g t c =
    let s = shape_of c.args.model.now in let m = (g.K.Look.looks c.args.look.now).members in let up = (g.K.Look.looks c.args.look.now).container in
    let none : length c.args.trees.now ≡ 0 = search (pieces, arith) in
    sym (ap (λ qs. c.args.found.now ++ qs) (no_tree_reads s m up c.args.trees.now c.args.target c.args.names.now c.args.enclosing.now none) ∙ append-nil c.args.found.now)
