use Rattle.std.specs.Prelude.{◌≡◌, ◌++◌, map, take}
use Rattle.opa_cells.specs.Instances.{named}
use Rattle.opa_case.proofs.every.add_instances.Given as goal

abbrev pub invariant-loop-name : goal.invariant-loop-name
invariant-loop-name l = l.found.items ≡ l.fn.found.items ++ map (named l.entity) (take l.name-index l.names)
