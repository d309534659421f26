use Rattle.std.proofs.Common.{◌≡◌, ◌++◌, drop, map}
use Rattle.opa_model.specs.declared.things.Relation.{Relation}
use Rattle.opa_model.specs.Lookups.{relation_phrases}
use Rattle.opa_rules.proofs.faults.known.with_relations.Given as goal

abbrev pub invariant-loop-place : goal.invariant-loop-place
invariant-loop-place l = l.all ++ map (λ (r : Relation). r.phrase) (drop l.place l.model.relations) ≡ l.fn.texts ++ relation_phrases l.model
