use Rattle.std.specs.Prelude.{refl}
use Rattle.opa_case.proofs.Housing.{no_homes}
use Rattle.opa_case.proofs.Whole.{none_whole}
use Rattle.opa_case.proofs.case.Case.new.Goals as goal

pub invariant_of-result : goal.invariant_of-result
invariant_of-result c = (no_homes _ c.new-4.ensures.homes, c.new-4.ensures.counts, none_whole _ c.new.ensures c.new-3.ensures refl)
