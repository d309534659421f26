use Rattle.std.proofs.Common.{◌≡◌, true, take}
use Rattle.std.specs.List.{list_all}
use Rattle.opa_case.specs.Live.{is_live}
use Rattle.opa_report.proofs.held.are_live.Given as goal

abbrev pub invariant-loop-inst : goal.invariant-loop-inst
invariant-loop-inst l = list_all (is_live l.case.live) (take l.inst-index l.insts) ≡ true
