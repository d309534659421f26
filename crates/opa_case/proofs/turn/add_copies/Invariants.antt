use Rattle.std.specs.Prelude.{◌≡◌, ◌++◌, take}
use Rattle.opa_case.proofs.turn.add_copies.Given as goal

abbrev pub invariant-loop-inst : goal.invariant-loop-inst
invariant-loop-inst l = l.gone.items ≡ l.fn.gone.items ++ take l.inst-index l.seeds
