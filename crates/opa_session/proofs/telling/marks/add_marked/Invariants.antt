use Rattle.std.proofs.Common.{◌≡◌, ◌++◌, filter, map, take}
use Rattle.opa_session.specs.Telling.Among.{is_marked}
use Rattle.opa_session.proofs.telling.marks.add_marked.Given as goal

abbrev pub invariant-loop-inst : goal.invariant-loop-inst
invariant-loop-inst l = l.all ≡ l.initial.all ++ filter (is_marked l.marks) (map (λ i. (l.attr, i)) (take l.inst-index l.owned))
