use Rattle.std.proofs.Common.{◌≡◌, map}
use Rattle.serde_json.specs.View.{view}
use Rattle.opa_rules.specs.Describing.Description.{relation_data}
use Rattle.opa_rules.specs.Describing.Parts.{upto}
use Rattle.opa_rules.proofs.describing.describing.relations.Given as goal

abbrev pub invariant-loop-n : goal.invariant-loop-n
invariant-loop-n l = map view l.items.items ≡ upto (relation_data l.model) l.n
