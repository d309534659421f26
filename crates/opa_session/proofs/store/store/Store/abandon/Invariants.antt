use Rattle.std.proofs.Common.{length}
use Rattle.opa_mean.specs.Reached.Settling.{SameLines}
use Rattle.opa_session.specs.Store.Stores.{kept_of, kept_lines, staged_lines}
use Rattle.opa_session.proofs.store.Listing.{AreAmong}
use Rattle.opa_session.proofs.store.store.Store.abandon.Given as goal

abbrev pub invariant-loop-slot : goal.invariant-loop-slot
invariant-loop-slot g l = record {
  kept : SameLines (kept_of l.fn.self) (kept_lines l.self-inside.entries);
  listed : AreAmong (staged_lines l.self-inside.entries) l.self-inside.slots;
}

abbrev pub decreases-loop-slot : goal.decreases-loop-slot
decreases-loop-slot g l = length l.self-inside.slots
