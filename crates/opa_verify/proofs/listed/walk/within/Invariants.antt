use Rattle.std.proofs.Common.{◌≡◌, ◌∷◌, take}
use Rattle.opa_cells.specs.Instances.{named}
use Rattle.opa_verify.proofs.listed.walk.within.Given as goal

abbrev pub invariant-loop-inst : goal.invariant-loop-inst
invariant-loop-inst l = l.all ≡ named l.fn.entity l.fn.name ∷ take l.inst-index l.enclosing
