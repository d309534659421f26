-- The attributes that have a rule, by their entities.
use Rattle.std.specs.Prelude.{◌≡◌, ℕ, ◌==◌, cond, List, [], ◌∷◌, flat_map, unwrap_or}
use Rattle.std.specs.BTreeMap as tree
use Rattle.std.specs.Ordering.{nat_cmp}
use Rattle.opa_model.specs.declared.ids.AttrId.{AttrId}
use Rattle.opa_case.specs.Shapes.{shape_of}
use Rattle.opa_mean.specs.Places.{owner_of}
use Rattle.opa_tree.specs.declared.rulebase.Rulebase.{Rulebase}
use Rattle.opa_session.specs.declared.store.owners.Owners.{Owners}

-- the attributes of an entity that have a rule, as rules tell them
abbrev pub ruled_of : Rulebase → ℕ → List AttrId
ruled_of r e = flat_map (λ rule. cond (owner_of (shape_of r.model) rule.attr == e) (rule.attr ∷ []) []) r.rules

abbrev pub owned_in : Owners → ℕ → List AttrId
owned_in owners e = unwrap_or (tree.get nat_cmp owners.each e) []

-- they are those of the rulebase, whatever the entity
abbrev pub AreOwners : Rulebase → Owners → Type 0
AreOwners r owners = (e : ℕ) → owned_in owners e ≡ ruled_of r e
