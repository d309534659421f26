use Rattle.std.specs.Prelude.{◌≡◌, take}
use Rattle.opa_cells.specs.declared.instance.InstanceId.{InstanceId}
use Rattle.opa_case.specs.Live.{container_of}
use Rattle.opa_saved.proofs.living.homes_of.Given as goal

abbrev pub invariant-loop-inst : goal.invariant-loop-inst
invariant-loop-inst l = (i : InstanceId) → container_of l.homes.entries i ≡ container_of (take l.inst-index l.order) i
