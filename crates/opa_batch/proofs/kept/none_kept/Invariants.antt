use Rattle.std.proofs.Common.{◌≡◌, length}
use Rattle.opa_batch.specs.Known.{AreNone}
use Rattle.opa_batch.proofs.kept.none_kept.Given as goal

-- the slots so far are empty
abbrev pub invariant-loop-slot : goal.invariant-loop-slot
invariant-loop-slot l = record {
  none : AreNone l.kept.items;
  slots : length l.kept.items ≡ l.slot;
}
