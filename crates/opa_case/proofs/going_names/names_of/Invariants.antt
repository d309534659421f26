use Rattle.std.specs.Prelude.{take}
use Rattle.opa_case.specs.Relists.{AreNamesOf}
use Rattle.opa_case.proofs.going_names.names_of.Given as goal

-- the names of those so far
abbrev pub invariant-loop-inst : goal.invariant-loop-inst
invariant-loop-inst l = AreNamesOf (take l.inst-index l.instances) l.index.entries l.at
