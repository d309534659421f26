use Rattle.std.proofs.lemmas.Result.{err_from_is_err_and}
use Rattle.opa_talk.specs.Talk.{MayLeave}
use Rattle.opa_talk.specs.Points.{point_of}
use Rattle.opa_talk.proofs.KeptLaws.{ok_kept, err_kept, broke_before, output_cause, err_cause}
use Rattle.opa_talk.proofs.feed.take_turn.Goals as goal

pub returns-in_err-pass_on-clause-err : goal.returns-in_err-pass_on-clause-err
returns-in_err-pass_on-clause-err g c =
    let p = err_from_is_err_and c.from_residual.result c.from_residual.ensures.1 in
    rw (p.1, p.2) (broke_before g.T.Replier.rule (MayLeave (g.F.Shelf.keep_faults c.args.shelf.now) (g.F.Shelf.keep_faults c.args.shelf.now) g.T.Replier.Stops g.T.Replier.Lacks) (point_of _ c.args.pending.now) _ _ _ _ _
    c.in_err-pass_on.ensures.bytes c.in_err-pass_on.ensures.err)

pub returns-in_err-pass_on-clause-cause : goal.returns-in_err-pass_on-clause-cause
returns-in_err-pass_on-clause-cause g c =
    let p = err_from_is_err_and c.from_residual.result c.from_residual.ensures.1 in
    rw (p.1, p.2) (output_cause _ _ _ _ _ _ _ _ _ c.in_err-pass_on.ensures.err c.in_err-pass_on.ensures.cause)

pub returns-clause-ok : goal.returns-clause-ok
returns-clause-ok g c =
    ok_kept g.T.Replier.rule _ _ _ c.in_ok-pass_on.ensures.bytes (point_of _ c.args.pending.now) (point_of _ c.read_turn.new.pending) _ _ _ c.read_turn.result c.read_turn.ensures.ok

pub returns-clause-err : goal.returns-clause-err
returns-clause-err g c =
    err_kept g.T.Replier.rule _ _ _ c.in_ok-pass_on.ensures.bytes (MayLeave (g.F.Shelf.keep_faults c.args.shelf.now) (g.F.Shelf.keep_faults c.read_turn.new.shelf) g.T.Replier.Stops g.T.Replier.Lacks)
    (point_of _ c.args.pending.now) (point_of _ c.read_turn.new.pending) _ _ _ c.read_turn.result c.read_turn.ensures.err

pub returns-clause-cause : goal.returns-clause-cause
returns-clause-cause g c = err_cause _ _ _ _ _ _ _ _ _ c.in_ok-pass_on.ensures.later c.read_turn.result c.read_turn.ensures.cause
