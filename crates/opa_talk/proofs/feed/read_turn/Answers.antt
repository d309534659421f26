use Rattle.std.proofs.Common.{◌<◌, [], arith, length}
use Rattle.opa_io.proofs.Appended.{Consumes-none, Consumes-Keeps}
use Rattle.opa_talk.specs.Points.{point_of}
use Rattle.opa_talk.proofs.PointsLaws.{carries_none}
use Rattle.opa_talk.proofs.feed.read_turn.Goals as goal

pub returns-in_default-clause-err : goal.returns-in_default-clause-err
returns-in_default-clause-err g c = (
  [],
  Consumes-Keeps _ _ _ [] (Consumes-none _) (rw c.in_default.is at c.read_into.ensures.bytes),
  omega arith,
  record { going = c.requires.going; carried = carries_none g.T.Replier.rule (point_of _ c.args.pending.now) _ c.requires.part },
)

pub returns-then-count-eq0-clause-ok : goal.returns-then-count-eq0-clause-ok
returns-then-count-eq0-clause-ok g c =
    let room : 0 < length c.read_into.new.buf.items = omega (arith, c.requires.room, c.read_into.ensures.len, c.read_into.new.buf.ok) in (
      rw c.if-count-eq0.true at c.in-Ok.ensures.bytes.0,
      c.in-Ok.ensures.bytes.1 c.if-count-eq0.true room,
      record { going = c.requires.going; carried = carries_none g.T.Replier.rule (point_of _ c.args.pending.now) _ c.requires.part },
    )
