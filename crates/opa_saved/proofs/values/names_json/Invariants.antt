use Rattle.std.proofs.Common.{◌≡◌, ◌++◌, map, length}
use Rattle.serde_json.specs.Data.{string}
use Rattle.serde_json.specs.View.{view}
use Rattle.opa_saved.proofs.values.names_json.Given as goal

abbrev pub invariant-loop-name : goal.invariant-loop-name
invariant-loop-name l = map view l.items.items ++ map string l.rest ≡ map string l.fn.names

abbrev pub decreases-loop-name : goal.decreases-loop-name
decreases-loop-name l = length l.rest
