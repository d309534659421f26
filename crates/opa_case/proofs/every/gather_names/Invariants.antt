use Rattle.std.specs.Prelude.{◌≡◌, ◌++◌, map, drop}
use Rattle.std.specs.Option.{option_map}
use Rattle.opa_case.specs.Live.{gathered}
use Rattle.opa_case.proofs.every.gather_names.Given as goal

abbrev pub invariant-loop-container : goal.invariant-loop-container
invariant-loop-container g l =
    option_map (λ rest. l.found ++ rest) (gathered (map (g.L.Lists.lists l.lists l.rel) (drop l.container-index l.containers))) ≡ gathered (map (g.L.Lists.lists l.lists l.rel) l.containers)
