use Rattle.std.proofs.Common.{take}
use Rattle.opa_mean.specs.Given.{base_of}
use Rattle.opa_session.specs.Telling.Among.{AreTold}
use Rattle.opa_session.proofs.telling.attrs.attributes_of.Given as goal

abbrev pub invariant-loop-slot : goal.invariant-loop-slot
invariant-loop-slot l = AreTold (base_of l.base) (take l.slot-index l.slots) l.told
