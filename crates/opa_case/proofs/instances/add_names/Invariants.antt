use Rattle.std.specs.Prelude.{◌≡◌, ◌++◌, take, map}
use Rattle.opa_cells.specs.Instances.{named}
use Rattle.opa_case.proofs.instances.add_names.Given as goal

abbrev pub invariant-loop-name : goal.invariant-loop-name
invariant-loop-name l = l.found ≡ l.fn.found ++ map (named l.entity) (take l.name-index l.names)
