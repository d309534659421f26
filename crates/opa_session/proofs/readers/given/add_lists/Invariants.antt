use Rattle.std.proofs.Common.{◌≡◌, ◌++◌, take}
use Rattle.std.specs.Prelude.{flat_map}
use Rattle.opa_session.specs.Readers.Renewing.{list_told}
use Rattle.opa_session.proofs.readers.given.add_lists.Given as goal

abbrev pub invariant-loop-number : goal.invariant-loop-number
invariant-loop-number l = l.told ≡ l.initial.told ++ flat_map (λ x. list_told l.old l.new (x.0, x.1.now)) (take l.number-index l.cells)
