use Rattle.std.specs.Prelude.{◌≡◌, take, map}
use Rattle.serde_json.specs.View.{view}
use Rattle.opa_rules.specs.Describing.Parts.{attribute_name}
use Rattle.opa_rules.proofs.describing.names.attribute_names.Given as goal

abbrev pub invariant-loop-attr : goal.invariant-loop-attr
invariant-loop-attr l = map view l.names.items ≡ map (attribute_name l.model) (take l.attr-index l.attrs)
