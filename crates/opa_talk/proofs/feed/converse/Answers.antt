use Rattle.std.proofs.Common.{sym, ◌∙◌}
use Rattle.std.proofs.lemmas.Result.{err_from_is_err_and}
use Rattle.opa_talk.specs.Talk.{MayLeave}
use Rattle.opa_talk.specs.Points.{point_of}
use Rattle.opa_talk.proofs.EndLaws.{converses_none, converses_ok, halts_err, halts_none, halts_memory}
use Rattle.opa_talk.proofs.feed.converse.Goals as goal

pub returns-in_err-buf-clause-err : goal.returns-in_err-buf-clause-err
returns-in_err-buf-clause-err g c =
    let p = err_from_is_err_and c.from_residual.result c.from_residual.ensures.1 in
    rw (p.1, p.2) (halts_memory g.T.Replier.rule (MayLeave (g.F.Shelf.keep_faults c.args.shelf.now) (g.F.Shelf.keep_faults c.args.shelf.now) g.T.Replier.Stops g.T.Replier.Lacks) _ 67108864 _ _)

pub returns-in_err-over-clause-err : goal.returns-in_err-over-clause-err
returns-in_err-over-clause-err g c =
    let p = err_from_is_err_and c.from_residual-in_err-over.result c.from_residual-in_err-over.ensures.1 in
    rw (p.1, p.2) (halts_none g.T.Replier.rule (MayLeave (g.F.Shelf.keep_faults c.args.shelf.now) (g.F.Shelf.keep_faults c.args.shelf.now) g.T.Replier.Stops g.T.Replier.Lacks) _ 67108864 _ _ _ _ 0 0 0 0 _ _ c.in_err-over.ensures.err c.in_err-over.ensures.cause)

pub returns-then-over-clause-ok : goal.returns-then-over-clause-ok
returns-then-over-clause-ok g c =
    converses_none g.T.Replier.rule _ _ _ c.in_ok-over.ensures.ok.wrote 67108864 _ (sym c.in_ok-over.ensures.ok.over_is ∙ c.if-over.true)

pub returns-clause-err : goal.returns-clause-err
returns-clause-err g c =
    halts_err g.T.Replier.rule _ _ _ c.in_ok-over.ensures.ok.wrote (MayLeave (g.F.Shelf.keep_faults c.args.shelf.now) (g.F.Shelf.keep_faults c.go_on.new.shelf) g.T.Replier.Stops g.T.Replier.Lacks) (point_of _ c.go_on.new.pending) 67108864 _ _ _ c.go_on.result
    (rw c.new.ensures.items at c.go_on.ensures.err)

pub returns-clause-ok : goal.returns-clause-ok
returns-clause-ok g c =
    converses_ok g.T.Replier.rule _ _ _ c.in_ok-over.ensures.ok.wrote
    _ 67108864 _ _ _ c.go_on.result (rw c.new.ensures.items at c.go_on.ensures.ok)
