use Rattle.std.proofs.Common.{◌≡◌, ◌≤◌, ◌++◌, List, ℕ, length, map}
use Rattle.opa_listen.specs.Hearing.{hearer}
use Rattle.opa_talk.specs.Lines.{IsPart}
use Rattle.opa_talk.specs.Transcript.{IsGoing}
use Rattle.opa_talk.specs.Points.{point_of, CarriesOut}
use Rattle.opa_talk.proofs.talk.take_piece.Given as goal

-- the lines so far were carried out, and the rest of the piece is still to come
abbrev pub invariant-loop-bytes : goal.invariant-loop-bytes
invariant-loop-bytes g l = record {
  done : (front : List ℕ) × (front ++ l.rest ≡ l.piece)
      × CarriesOut g.T.Replier.rule (point_of (g.T.Replier.held l.fn.replier (map (λ b. hearer ((goal.Listener-dyn g (b.vtable, b.value)).state b.value)) l.fn.listeners.items) (g.F.Shelf.files l.fn.shelf) l.fn.steps) l.fn.pending) (point_of (g.T.Replier.held l.replier (map (λ b. hearer ((goal.Listener-dyn g (b.vtable, b.value)).state b.value)) l.listeners.items) (g.F.Shelf.files l.shelf) l.steps) l.pending) front (g.K.Sink.written l.fn.out) (g.K.Sink.written l.out);
  going : IsGoing g.T.Replier.rule (g.T.Replier.held l.replier (map (λ b. hearer ((goal.Listener-dyn g (b.vtable, b.value)).state b.value)) l.listeners.items) (g.F.Shelf.files l.shelf) l.steps);
  part : IsPart l.pending.bytes.items;
  later : g.K.Sink.faults l.fn.out ≤ g.K.Sink.faults l.out;
  later_take : g.F.Shelf.take_faults l.fn.shelf ≤ g.F.Shelf.take_faults l.shelf;
  later_keep : g.F.Shelf.keep_faults l.fn.shelf ≤ g.F.Shelf.keep_faults l.shelf;
}

abbrev pub decreases-loop-bytes : goal.decreases-loop-bytes
decreases-loop-bytes g l = length l.rest
