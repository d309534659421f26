use Rattle.std.specs.Prelude.{◌≡◌, take, map}
use Rattle.serde_json.specs.View.{view}
use Rattle.opa_rules.specs.Describing.Parts.{relation_name}
use Rattle.opa_rules.proofs.describing.names.relation_names.Given as goal

abbrev pub invariant-loop-rel : goal.invariant-loop-rel
invariant-loop-rel l = map view l.names.items ≡ map (relation_name l.model) (take l.rel-index l.rels)
