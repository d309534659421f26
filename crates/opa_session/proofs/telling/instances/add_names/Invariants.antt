use Rattle.std.proofs.Common.{◌≡◌, ◌++◌, filter, map, take}
use Rattle.std.specs.Option.{option_copied}
use Rattle.opa_cells.specs.Instances.{named}
use Rattle.opa_session.specs.Telling.Sought.{is_wanted}
use Rattle.opa_session.proofs.telling.instances.add_names.Given as goal

abbrev pub invariant-loop-name : goal.invariant-loop-name
invariant-loop-name l = l.found ≡ l.initial.found ++ filter (is_wanted (option_copied l.wanted)) (map (named l.entity) (take l.name-index l.names))
