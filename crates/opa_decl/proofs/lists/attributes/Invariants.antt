use Rattle.std.proofs.Common.{◌≡◌, ◌++◌, length}
use Rattle.std.specs.Prelude.{flat_map}
use Rattle.opa_decl.specs.Lists.{attribute_in}
use Rattle.opa_decl.specs.Seen.{seen}
use Rattle.opa_decl.proofs.lists.attributes.Given as goal

abbrev pub invariant-loop-item : goal.invariant-loop-item
invariant-loop-item l = l.list ++ flat_map (attribute_in (seen l.tables)) l.rest ≡ flat_map (attribute_in (seen l.tables)) l.items

abbrev pub decreases-loop-item : goal.decreases-loop-item
decreases-loop-item l = length l.rest
