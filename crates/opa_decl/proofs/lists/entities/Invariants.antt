use Rattle.std.proofs.Common.{◌≡◌, ◌++◌, ◌∷◌, length}
use Rattle.std.specs.Prelude.{flat_map}
use Rattle.opa_decl.specs.Lists.{entity_in, global_entity}
use Rattle.opa_decl.specs.Seen.{seen}
use Rattle.opa_decl.proofs.lists.entities.Given as goal

abbrev pub invariant-loop-item : goal.invariant-loop-item
invariant-loop-item l = l.list ++ flat_map (entity_in (seen l.tables)) l.rest ≡ global_entity ∷ flat_map (entity_in (seen l.tables)) l.items

abbrev pub decreases-loop-item : goal.decreases-loop-item
decreases-loop-item l = length l.rest
