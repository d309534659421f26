use Rattle.std.proofs.Common.{◌≤◌, [], refl, arith, vec_len}
use Rattle.std.proofs.lemmas.Result.{err_from_is_err_and}
use Rattle.opa_io.proofs.Appended.{Consumes-none}
use Rattle.opa_talk.specs.Talk.{MayLeave}
use Rattle.opa_talk.specs.Points.{point_of}
use Rattle.opa_talk.proofs.PointsLaws.{carries_none}
use Rattle.opa_talk.proofs.FeedLaws.{read_more, read_end, read_over, read_breaks}
use Rattle.opa_talk.proofs.RoseLaws.{part_later}
use Rattle.opa_talk.proofs.feed.take_lines.Goals as goal

pub loop-left-init : goal.loop-left-init
loop-left-init g c = record {
  talked = ([], Consumes-none _, refl, record { going = c.requires.going; carried = carries_none g.T.Replier.rule (point_of _ c.args.pending.now) _ c.requires.part });
  room = c.requires.room;
  later_input = omega arith;
  later = omega arith;
  later_take = omega arith;
  later_keep = omega arith;
}

pub returns-in_err-take_turn-clause-err : goal.returns-in_err-take_turn-clause-err
returns-in_err-take_turn-clause-err g c =
    let p = err_from_is_err_and c.from_residual.result c.from_residual.ensures.1 in
    let less : vec_len c.truncate.new.self ≤ c.loop-left.left = omega arith in
    rw (p.1, p.2) (read_breaks g.T.Replier.rule (point_of _ c.args.pending.now) (point_of _ c.loop-left.pending) 67108864 c.loop-left.left _ _ _ _ _ _ c.loop-left.invariant.talked
    (point_of _ c.take_turn.new.pending) _ less (MayLeave (g.F.Shelf.keep_faults c.args.shelf.now) (g.F.Shelf.keep_faults c.take_turn.new.shelf) g.T.Replier.Stops g.T.Replier.Lacks) _
    (part_later g.T.Replier.rule g.T.Replier.Stops g.T.Replier.Lacks _ (g.F.Shelf.keep_faults c.loop-left.shelf) _ c.loop-left.invariant.later_keep _ _ _ _ _ _ _ _ c.in_err-take_turn.ensures.err))

pub returns-in-End-clause-ok : goal.returns-in-End-clause-ok
returns-in-End-clause-ok g c =
    let less : vec_len c.truncate.new.self ≤ c.loop-left.left = omega arith in
    read_end g.T.Replier.rule (point_of _ c.args.pending.now) (point_of _ c.loop-left.pending) 67108864 c.loop-left.left _ _ _ _ _ _ c.loop-left.invariant.talked
    (point_of _ c.take_turn.new.pending) _ less (rw c.in-End.is at c.in_ok-take_turn.ensures.ok)

pub returns-in-Over-clause-ok : goal.returns-in-Over-clause-ok
returns-in-Over-clause-ok g c =
    let less : vec_len c.truncate.new.self ≤ c.loop-left.left = omega arith in
    read_over g.T.Replier.rule (point_of _ c.args.pending.now) (point_of _ c.loop-left.pending) 67108864 c.loop-left.left _ _ _ _ _ _ c.loop-left.invariant.talked
    (point_of _ c.take_turn.new.pending) _ less (rw c.in-Over.is at c.in_ok-take_turn.ensures.ok)

pub loop-left-preserved : goal.loop-left-preserved
loop-left-preserved g c =
    let less : vec_len c.truncate.new.self ≤ c.loop-left.left = omega arith in
    record {
      talked = read_more g.T.Replier.rule (point_of _ c.args.pending.now) (point_of _ c.loop-left.pending) 67108864 c.loop-left.left _ _ _ _ _ _ c.loop-left.invariant.talked
          (point_of _ c.take_turn.new.pending) _ less _ (rw c.in-Read.is at c.in_ok-take_turn.ensures.ok);
      room = omega arith;
      later_input = omega arith;
      later = omega arith;
      later_take = omega arith;
      later_keep = omega arith;
    }
