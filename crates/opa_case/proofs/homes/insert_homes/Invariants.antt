use Rattle.std.specs.Prelude.{◌≡◌, cond, Some, take}
use Rattle.opa_cells.specs.declared.instance.InstanceId.{InstanceId}
use Rattle.opa_case.specs.Homes.{home_of}
use Rattle.opa_case.specs.Turns.{is_among}
use Rattle.opa_case.proofs.homes.insert_homes.Given as goal

abbrev pub invariant-loop-inst : goal.invariant-loop-inst
invariant-loop-inst l = (i : InstanceId) → home_of l.homes i ≡ cond (is_among (take l.inst-index l.come) i) (Some l.container) (home_of l.fn.homes i)
