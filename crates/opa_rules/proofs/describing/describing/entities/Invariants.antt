use Rattle.std.proofs.Common.{◌≡◌, map}
use Rattle.serde_json.specs.View.{view}
use Rattle.opa_rules.specs.Describing.Parts.{upto, entity_data}
use Rattle.opa_rules.proofs.describing.describing.entities.Given as goal

abbrev pub invariant-loop-n : goal.invariant-loop-n
invariant-loop-n l = map view l.items.items ≡ upto (entity_data l.model) l.n
