use Rattle.std.specs.Prelude.{◌≡◌, ◌++◌, take}
use Rattle.opa_case.proofs.every.add_names.Given as goal

abbrev pub invariant-loop-name : goal.invariant-loop-name
invariant-loop-name l = l.found ≡ l.fn.found ++ take l.name-index l.names
