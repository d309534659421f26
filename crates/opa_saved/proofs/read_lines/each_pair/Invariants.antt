use Rattle.std.proofs.Common.{◌≡◌, ◌++◌, map, length}
use Rattle.std.specs.Option.{option_map}
use Rattle.serde_json.specs.View.{view}
use Rattle.opa_saved.specs.Forms.{each, pair_in}
use Rattle.opa_saved.proofs.read_lines.each_pair.Given as goal

abbrev pub invariant-loop-item : goal.invariant-loop-item
invariant-loop-item l = each (pair_in l.fn.version) (map view l.fn.items) ≡ option_map (λ more. l.pairs.items ++ more) (each (pair_in l.fn.version) (map view l.rest))

abbrev pub decreases-loop-item : goal.decreases-loop-item
decreases-loop-item l = length l.rest
