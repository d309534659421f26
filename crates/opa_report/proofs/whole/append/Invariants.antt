use Rattle.std.proofs.Common.{◌≡◌, ◌++◌, take}
use Rattle.opa_report.proofs.whole.append.Given as goal

abbrev pub invariant-loop-inst : goal.invariant-loop-inst
invariant-loop-inst l = l.all ≡ l.initial.all ++ take l.inst-index l.insts
