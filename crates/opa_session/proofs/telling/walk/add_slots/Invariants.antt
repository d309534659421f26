use Rattle.std.proofs.Common.{◌≡◌, ◌++◌, map, take}
use Rattle.opa_session.proofs.telling.walk.add_slots.Given as goal

abbrev pub invariant-loop-inst : goal.invariant-loop-inst
invariant-loop-inst l = l.all ≡ l.initial.all ++ map (λ i. (l.attr, i)) (take l.inst-index l.owned)
