use Rattle.std.proofs.Common.{◌≡◌, take}
use Rattle.opa_report.proofs.kept_lines.made_of.Given as goal

abbrev pub invariant-loop-inst : goal.invariant-loop-inst
invariant-loop-inst l = l.copied ≡ take l.inst-index l.enclosing
