use Rattle.std.proofs.Common.{◌≡◌, map, take}
use Rattle.opa_model.proofs.model.relation_set.Given as goal

abbrev pub invariant-loop-relation : goal.invariant-loop-relation
invariant-loop-relation l = l.set ≡ map (λ x. x.phrase) (take l.relation-index l.relations)
