use Rattle.std.proofs.Common.{◌≡◌, take}
use Rattle.opa_report.proofs.held.copied.Given as goal

abbrev pub invariant-loop-inst : goal.invariant-loop-inst
invariant-loop-inst l = l.list ≡ take l.inst-index l.insts
