use Rattle.std.proofs.Common.{◌≡◌, ◌++◌, drop, map}
use Rattle.opa_model.specs.declared.things.Relation.{Relation}
use Rattle.opa_model.specs.Lookups.{relation_phrases}
use Rattle.opa_parse.specs.Naming.{declared_from}
use Rattle.opa_parse.proofs.names.declared_relations.Given as goal

abbrev pub invariant-loop-place : goal.invariant-loop-place
invariant-loop-place l = record {
  texts : l.relations.texts ++ map (λ (r : Relation). r.phrase) (drop l.place l.model.relations) ≡ relation_phrases l.model;
  related : l.relations.related ++ declared_from l.place (drop l.place l.model.relations) ≡ declared_from 0 l.model.relations;
}
