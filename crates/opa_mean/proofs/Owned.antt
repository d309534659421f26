-- An attribute belongs to an entity of the model.
use Rattle.std.proofs.Common.{length, refl, Option, None, ◌<◌, Some, ◌≡◌}
use Rattle.std.specs.Prelude.{unwrap_or, slice_get}
use Rattle.opa_io.proofs.Places.{All_at}
use Rattle.opa_model.specs.Models.{HasEntity, IsModel}
use Rattle.opa_model.specs.declared.ids.AttrId.{AttrId}
use Rattle.opa_model.specs.declared.lists.Lists.{Lists}
use Rattle.opa_model.specs.declared.things.Attribute.{Attribute}
use Rattle.opa_case.specs.Shapes.{shape_of, no_attribute}
use Rattle.opa_mean.specs.Places.{owner_of}

-- its owner is one of the model's entities
pub owner_within : (m : Lists) → IsModel m → (a : AttrId) → owner_of (shape_of m) a < length m.entities
owner_within m is a = go (slice_get m.attributes a.0) refl
  where
    go : (o : Option Attribute) → slice_get m.attributes a.0 ≡ o → (unwrap_or o no_attribute).entity.0 < length m.entities
    go None e = is.has_global
    go (Some x) e = All_at (λ (y : Attribute). HasEntity m y.entity) m.attributes a.0 x e is.in_range.owners
