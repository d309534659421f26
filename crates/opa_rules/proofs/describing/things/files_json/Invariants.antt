use Rattle.std.specs.Prelude.{◌≡◌, take, map}
use Rattle.serde_json.specs.View.{view}
use Rattle.opa_rules.specs.Describing.Parts.{file_data}
use Rattle.opa_rules.proofs.describing.things.files_json.Given as goal

abbrev pub invariant-loop-name : goal.invariant-loop-name
invariant-loop-name l = map view l.items.items ≡ map file_data (take l.name-index l.files)
