use Rattle.std.specs.Prelude.{◌≡◌, ◌++◌, take, flat_map}
use Rattle.opa_case.specs.Live.{held_names}
use Rattle.opa_case.proofs.contained.add_contained.Given as goal

abbrev pub invariant-loop-container : goal.invariant-loop-container
invariant-loop-container g l = l.order.items ≡ l.fn.order.items ++ flat_map (λ c. held_names l.entity c (g.L.Lists.lists l.lists l.rel c)) (take l.container-index l.container-items)
