use Rattle.std.proofs.Common.{◌≡◌, ◌∷◌, take}
use Rattle.opa_cells.specs.Instances.{global}
use Rattle.opa_code.proofs.members.with_room.Given as goal

abbrev pub invariant-loop-inst : goal.invariant-loop-inst
invariant-loop-inst l = l.all ≡ global ∷ take l.inst-index l.enclosing
