use Rattle.std.specs.Prelude.{◌≡◌, take}
use Rattle.opa_saved.proofs.maps.copy_names.Given as goal

abbrev pub invariant-loop-name : goal.invariant-loop-name
invariant-loop-name l = l.copied ≡ take l.name-index l.names
