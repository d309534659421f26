use Rattle.std.proofs.Common.{◌≡◌, take}
use Rattle.std.specs.Prelude.{flat_map}
use Rattle.opa_case.specs.Overlays.{relisted_case}
use Rattle.opa_session.specs.Readers.Renewing.{list_told}
use Rattle.opa_session.proofs.readers.told.differing.Given as goal

abbrev pub invariant-loop-rel : goal.invariant-loop-rel
invariant-loop-rel l = l.told ≡ flat_map (λ x. list_told l.held (relisted_case l.next) (x.0.0, x.1)) (take l.rel-index l.keys)
