use Rattle.std.proofs.Common.{◌≡◌, ◌<◌, ◌≤◌, ◌+◌, List, ℕ, length, map, vec_len}
use Rattle.std.specs.Io.KnownBytes.{Consumes}
use Rattle.opa_listen.specs.Hearing.{hearer}
use Rattle.opa_talk.specs.Points.{point_of, GoesOn}
use Rattle.opa_talk.proofs.feed.take_lines.Given as goal

-- what was read so far was carried out
abbrev pub invariant-loop-left : goal.invariant-loop-left
invariant-loop-left g l = record {
  talked : (read : List ℕ) × Consumes (g.S.Source.left l.fn.input) (g.S.Source.left l.input) read × (length read + l.left ≡ 67108864)
      × GoesOn g.T.Replier.rule (point_of (g.T.Replier.held l.fn.replier (map (λ b. hearer ((goal.Listener-dyn g (b.vtable, b.value)).state b.value)) l.fn.listeners.items) (g.F.Shelf.files l.fn.shelf) l.fn.steps) l.fn.pending) (point_of (g.T.Replier.held l.replier (map (λ b. hearer ((goal.Listener-dyn g (b.vtable, b.value)).state b.value)) l.listeners.items) (g.F.Shelf.files l.shelf) l.steps) l.pending) read (g.K.Sink.written l.fn.out) (g.K.Sink.written l.out);
  room : 0 < vec_len l.buf;
  later_input : g.S.Source.faults l.fn.input ≤ g.S.Source.faults l.input;
  later : g.K.Sink.faults l.fn.out ≤ g.K.Sink.faults l.out;
  later_take : g.F.Shelf.take_faults l.fn.shelf ≤ g.F.Shelf.take_faults l.shelf;
  later_keep : g.F.Shelf.keep_faults l.fn.shelf ≤ g.F.Shelf.keep_faults l.shelf;
}

abbrev pub decreases-loop-left : goal.decreases-loop-left
decreases-loop-left g l = l.left
