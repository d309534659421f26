use Rattle.std.proofs.Common.{take}
use Rattle.std.specs.List.{AllByRecursion}
use Rattle.opa_case.specs.Cases.{IsLive}
use Rattle.opa_need.proofs.stays.are_live.Given as goal

abbrev pub invariant-loop-inst : goal.invariant-loop-inst
invariant-loop-inst g l = AllByRecursion (IsLive (g.H.Held.held l.held)) (take l.inst-index l.insts)
