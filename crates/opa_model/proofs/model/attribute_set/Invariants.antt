use Rattle.std.proofs.Common.{◌≡◌, map, take}
use Rattle.opa_model.proofs.model.attribute_set.Given as goal

abbrev pub invariant-loop-attribute : goal.invariant-loop-attribute
invariant-loop-attribute l = l.set ≡ map (λ x. x.phrase) (take l.attribute-index l.attributes)
