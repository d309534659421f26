-- Slots as pairs of an attribute and an instance.
use Rattle.std.specs.Prelude.{List, [], map, Option, None, Some}
use Rattle.std.specs.BTreeSet.{BTreeSet}
use Rattle.opa_mean.specs.Reached.Settling.{Waiting}
use Rattle.opa_mean.specs.declared.reached.slot.Slot.{Slot}

abbrev pub pairs_of : List Slot → Waiting
pairs_of slots = map (λ (s : Slot). (s.attr, s.inst)) slots

-- the slots of a set, in their order; no slots, where there is no set
abbrev pub slots_in : Option (BTreeSet Slot) → List Slot
slots_in None = []
slots_in (Some set) = set.keys
