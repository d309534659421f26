use Rattle.std.proofs.Common.{sym, ap, ◌∙◌}
use Rattle.std.proofs.lemmas.Result.{err_from_is_err_and}
use Rattle.opa_talk.specs.Lines.{line_at}
use Rattle.opa_talk.specs.Talk.{MayLeave}
use Rattle.opa_talk.specs.Points.{point_of}
use Rattle.opa_talk.proofs.PointsLaws.{finishes_line, breaks_last}
use Rattle.opa_talk.proofs.talk.finish.Goals as goal

pub returns-in_err-carry_out-clause-err : goal.returns-in_err-carry_out-clause-err
returns-in_err-carry_out-clause-err g c =
    let p = err_from_is_err_and c.from_residual.result c.from_residual.ensures.1 in
    rw p.1 (breaks_last g.T.Replier.rule (point_of _ c.args.pending.now) _ _ _ _ c.requires.part c.requires.going
    (c.line_at-line.ensures ∙ ap (line_at c.args.pending.now.fresh) c.deref.ensures.value) (sym c.is_empty.ensures ∙ c.if-is_empty.false) (MayLeave (g.F.Shelf.keep_faults c.args.shelf.now) (g.F.Shelf.keep_faults c.carry_out.new.shelf) g.T.Replier.Stops g.T.Replier.Lacks) c.in_err-carry_out.ensures.err)

pub returns-clause-ok : goal.returns-clause-ok
returns-clause-ok g c =
    finishes_line g.T.Replier.rule (point_of _ c.args.pending.now) _ _ _ _ c.requires.part c.requires.going
    (c.line_at-line.ensures ∙ ap (line_at c.args.pending.now.fresh) c.deref.ensures.value) (sym c.is_empty.ensures ∙ c.if-is_empty.false) _ c.in_ok-carry_out.ensures.ok
