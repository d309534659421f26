use Rattle.std.proofs.Common.{◌≡◌, ◌++◌, map, take}
use Rattle.opa_mean.specs.Reached.Slots.{pairs_of}
use Rattle.opa_session.proofs.readers.touched.add_slots.Given as goal

abbrev pub invariant-loop-attr : goal.invariant-loop-attr
invariant-loop-attr l = pairs_of l.slots ≡ pairs_of l.initial.slots ++ map (λ a. (a, l.inst)) (take l.attr-index l.attrs)
