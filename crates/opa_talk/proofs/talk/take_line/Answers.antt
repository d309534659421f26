use Rattle.std.proofs.Common.{◌≡◌, ◌∷◌, ◌++◌, [], ap, ◌∙◌}
use Rattle.std.proofs.lemmas.Result.{err_from_is_err_and}
use Rattle.opa_talk.specs.Lines.{line_at}
use Rattle.opa_talk.specs.Talk.{MayLeave}
use Rattle.opa_talk.specs.Points.{point_of}
use Rattle.opa_talk.proofs.PointsLaws.{carries_line, breaks_line, breaks_none}
use Rattle.opa_talk.proofs.talk.take_line.Goals as goal

pub returns-in_err-over-clause-err : goal.returns-in_err-over-clause-err
returns-in_err-over-clause-err g c =
    let is : c.line_at-line.result.now ≡ line_at c.args.pending.now.fresh ((c.args.pending.now.bytes.items ++ c.args.bytes.now) ++ 10 ∷ []) =
    c.line_at-line.ensures ∙ ap (line_at c.args.pending.now.fresh) (c.deref.ensures.value ∙ c.in_ok-push.ensures.items ∙ ap (λ s. s ++ 10 ∷ []) c.in_ok-extend_from_slice.ensures.items) in
    let p = err_from_is_err_and c.from_residual-in_err-over.result c.from_residual-in_err-over.ensures.1 in
    rw p.1 (breaks_line g.T.Replier.rule (MayLeave (g.F.Shelf.keep_faults c.args.shelf.now) (g.F.Shelf.keep_faults c.carry_out.new.shelf) g.T.Replier.Stops g.T.Replier.Lacks) (point_of _ c.args.pending.now) _ c.args.bytes.now _ _ _ c.requires.part c.requires.going is c.in_err-over.ensures.err)

pub returns-clause-ok : goal.returns-clause-ok
returns-clause-ok g c =
    let is : c.line_at-line.result.now ≡ line_at c.args.pending.now.fresh ((c.args.pending.now.bytes.items ++ c.args.bytes.now) ++ 10 ∷ []) =
    c.line_at-line.ensures ∙ ap (line_at c.args.pending.now.fresh) (c.deref.ensures.value ∙ c.in_ok-push.ensures.items ∙ ap (λ s. s ++ 10 ∷ []) c.in_ok-extend_from_slice.ensures.items) in
    carries_line g.T.Replier.rule (point_of _ c.args.pending.now) _ c.args.bytes.now _ _ _ _ _ c.requires.part c.requires.going is c.in_ok-over.ensures.ok c.clear.ensures.items

pub returns-in_err-extend_from_slice-clause-err : goal.returns-in_err-extend_from_slice-clause-err
returns-in_err-extend_from_slice-clause-err g c =
    let p = err_from_is_err_and c.from_residual.result c.from_residual.ensures.1 in
    rw p.1 (breaks_none g.T.Replier.rule (MayLeave (g.F.Shelf.keep_faults c.args.shelf.now) (g.F.Shelf.keep_faults c.args.shelf.now) g.T.Replier.Stops g.T.Replier.Lacks) (point_of _ c.args.pending.now) _ _)

pub returns-in_err-push-clause-err : goal.returns-in_err-push-clause-err
returns-in_err-push-clause-err g c =
    let p = err_from_is_err_and c.from_residual-in_err-push.result c.from_residual-in_err-push.ensures.1 in
    rw p.1 (breaks_none g.T.Replier.rule (MayLeave (g.F.Shelf.keep_faults c.args.shelf.now) (g.F.Shelf.keep_faults c.args.shelf.now) g.T.Replier.Stops g.T.Replier.Lacks) (point_of _ c.args.pending.now) _ _)
