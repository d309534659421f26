use Rattle.std.proofs.Common.{◌≤◌, ◌+◌, length, take}
use Rattle.opa_session.specs.Store.Stores.{kept_of, staged_of}
use Rattle.opa_session.specs.Infer.First.{AreFirst}
use Rattle.opa_session.proofs.infer.first.staged_lines.Given as goal

abbrev pub invariant-loop-place : goal.invariant-loop-place
invariant-loop-place g l = record {
  first : AreFirst l.base l.case (take l.place l.slots) (kept_of l.store) (staged_of l.store);
  bound : l.steps ≤ l.fn.steps + l.place;
  upto : l.place ≤ length l.slots;
}
