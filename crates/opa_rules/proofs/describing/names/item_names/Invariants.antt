use Rattle.std.specs.Prelude.{◌≡◌, take, map}
use Rattle.serde_json.specs.View.{view}
use Rattle.opa_rules.specs.Describing.Parts.{item_name}
use Rattle.opa_rules.proofs.describing.names.item_names.Given as goal

abbrev pub invariant-loop-item : goal.invariant-loop-item
invariant-loop-item l = map view l.names.items ≡ map (item_name l.model) (take l.item-index l.items)
