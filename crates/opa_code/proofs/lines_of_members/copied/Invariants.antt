use Rattle.std.proofs.Common.{◌≡◌, take}
use Rattle.opa_code.proofs.lines_of_members.copied.Given as goal

abbrev pub invariant-loop-inst : goal.invariant-loop-inst
invariant-loop-inst l = l.all ≡ take l.inst-index l.enclosing
