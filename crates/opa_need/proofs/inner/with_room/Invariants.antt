use Rattle.std.proofs.Common.{◌≡◌, ◌∷◌, take}
use Rattle.opa_cells.specs.Instances.{global}
use Rattle.opa_need.proofs.inner.with_room.Given as goal

abbrev pub invariant-loop-inst : goal.invariant-loop-inst
invariant-loop-inst l = l.inner ≡ global ∷ take l.inst-index l.inst-items
