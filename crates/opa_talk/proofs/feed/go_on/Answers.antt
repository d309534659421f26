use Rattle.opa_talk.specs.Talk.{MayLeave}
use Rattle.opa_talk.specs.Points.{point_of}
use Rattle.opa_talk.proofs.EndLaws.{feeds_over, full_end, full_limit, finish_ok, finish_err}
use Rattle.opa_talk.proofs.RoseLaws.{err_later}
use Rattle.opa_talk.proofs.feed.go_on.Goals as goal

pub returns-in-Over-clause-ok : goal.returns-in-Over-clause-ok
returns-in-Over-clause-ok g c =
    feeds_over g.T.Replier.rule (point_of _ c.args.pending.now) (point_of _ c.take_lines.new.pending) _ _ 67108864 _ _ (rw c.in-Over.is at c.in_ok-take_lines.ensures.ok)

pub returns-in-End-clause-ok : goal.returns-in-End-clause-ok
returns-in-End-clause-ok g c =
    finish_ok g.T.Replier.rule (point_of _ c.args.pending.now) (point_of _ c.take_lines.new.pending) _ _ (MayLeave (g.F.Shelf.keep_faults c.args.shelf.now) (g.F.Shelf.keep_faults c.finish.new.shelf) g.T.Replier.Stops g.T.Replier.Lacks) 67108864 _ _ _
    (point_of _ c.take_lines.new.pending) c.finish.result (rw c.in-End.is at c.in_ok-take_lines.ensures.ok) c.finish.ensures.ok

pub returns-in-End-clause-err : goal.returns-in-End-clause-err
returns-in-End-clause-err g c =
    finish_err g.T.Replier.rule (point_of _ c.args.pending.now) (point_of _ c.take_lines.new.pending) _ _ (MayLeave (g.F.Shelf.keep_faults c.args.shelf.now) (g.F.Shelf.keep_faults c.finish.new.shelf) g.T.Replier.Stops g.T.Replier.Lacks) 67108864 _ _ _
    (point_of _ c.take_lines.new.pending) c.finish.result _ _ _ _ _ _ (rw c.in-End.is at c.in_ok-take_lines.ensures.ok) (err_later g.T.Replier.rule g.T.Replier.Stops g.T.Replier.Lacks _ (g.F.Shelf.keep_faults c.take_lines.new.shelf) _ c.in_ok-take_lines.ensures.later_keep c.finish.result _ _ _ _ _ c.finish.ensures.err) c.finish.ensures.cause

pub returns-then-ended-clause-ok : goal.returns-then-ended-clause-ok
returns-then-ended-clause-ok g c =
    finish_ok g.T.Replier.rule (point_of _ c.args.pending.now) (point_of _ c.take_lines.new.pending) _ _ (MayLeave (g.F.Shelf.keep_faults c.args.shelf.now) (g.F.Shelf.keep_faults c.finish-then-ended.new.shelf) g.T.Replier.Stops g.T.Replier.Lacks) 67108864 _ _ _
    (point_of _ c.take_lines.new.pending) c.finish-then-ended.result
    (full_end g.T.Replier.rule (point_of _ c.args.pending.now) (point_of _ c.take_lines.new.pending) _ _ 67108864 _ _ _
    (rw c.in-Full.is at c.in_ok-take_lines.ensures.ok) (rw c.if-ended.true at c.in-Ok.ensures.bytes)) c.finish-then-ended.ensures.ok

pub returns-then-ended-clause-err : goal.returns-then-ended-clause-err
returns-then-ended-clause-err g c =
    finish_err g.T.Replier.rule (point_of _ c.args.pending.now) (point_of _ c.take_lines.new.pending) _ _ (MayLeave (g.F.Shelf.keep_faults c.args.shelf.now) (g.F.Shelf.keep_faults c.finish-then-ended.new.shelf) g.T.Replier.Stops g.T.Replier.Lacks) 67108864 _ _ _
    (point_of _ c.take_lines.new.pending) c.finish-then-ended.result _ _ _ _ _ _
    (full_end g.T.Replier.rule (point_of _ c.args.pending.now) (point_of _ c.take_lines.new.pending) _ _ 67108864 _ _ _
    (rw c.in-Full.is at c.in_ok-take_lines.ensures.ok) (rw c.if-ended.true at c.in-Ok.ensures.bytes)) (err_later g.T.Replier.rule g.T.Replier.Stops g.T.Replier.Lacks _ (g.F.Shelf.keep_faults c.take_lines.new.shelf) _ c.in_ok-take_lines.ensures.later_keep c.finish-then-ended.result _ _ _ _ _ c.finish-then-ended.ensures.err) c.finish-then-ended.ensures.cause

pub returns-else-ended-clause-err : goal.returns-else-ended-clause-err
returns-else-ended-clause-err g c =
    full_limit g.T.Replier.rule (point_of _ c.args.pending.now) (point_of _ c.take_lines.new.pending) _ _ (MayLeave (g.F.Shelf.keep_faults c.args.shelf.now) (g.F.Shelf.keep_faults c.take_lines.new.shelf) g.T.Replier.Stops g.T.Replier.Lacks) 67108864 _ _ _
    (rw c.in-Full.is at c.in_ok-take_lines.ensures.ok) (rw c.if-ended.false at c.in-Ok.ensures.bytes)
