use Rattle.std.specs.Prelude.{◌≡◌, ◌++◌, take}
use Rattle.opa_case.specs.Live.{in_container}
use Rattle.opa_case.proofs.contained.add_names.Given as goal

abbrev pub invariant-loop-name : goal.invariant-loop-name
invariant-loop-name l = l.order.items ≡ l.fn.order.items ++ in_container l.entity l.container (take l.name-index l.names)
