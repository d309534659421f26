-- Declared things by their places, and places by phrases.
use Rattle.std.specs.Prelude.{ℕ, List, Option, map, position, slice_get}
use Rattle.std.specs.Option.{option_map}
use Rattle.std.specs.Str.{bytes_eq}
use Rattle.opa_model.specs.declared.ids.AttrId.{AttrId}
use Rattle.opa_model.specs.declared.ids.EntityId.{EntityId}
use Rattle.opa_model.specs.declared.ids.RelId.{RelId}
use Rattle.opa_model.specs.declared.things.Attribute.{Attribute}
use Rattle.opa_model.specs.declared.things.Entity.{Entity}
use Rattle.opa_model.specs.declared.things.Relation.{Relation}
use Rattle.opa_model.specs.declared.things.Screen.{Screen}
use Rattle.opa_model.specs.declared.things.Verb.{Verb}
use Rattle.opa_model.specs.declared.lists.Lists.{Lists}

abbrev pub entity_at : Lists → EntityId → Option Entity
entity_at m id = slice_get m.entities id.0

abbrev pub attribute_at : Lists → AttrId → Option Attribute
attribute_at m id = slice_get m.attributes id.0

abbrev pub relation_at : Lists → RelId → Option Relation
relation_at m id = slice_get m.relations id.0

abbrev pub verb_at : Lists → ℕ → Option Verb
verb_at m n = slice_get m.verbs n

abbrev pub screen_at : Lists → ℕ → Option Screen
screen_at m n = slice_get m.screens n

abbrev pub goal_at : Lists → ℕ → Option AttrId
goal_at m n = slice_get m.goals n

-- the phrases of the attributes, and of the relations, in declared order
abbrev pub attribute_phrases : Lists → List (List ℕ)
attribute_phrases m = map (λ a. a.phrase) m.attributes

abbrev pub relation_phrases : Lists → List (List ℕ)
relation_phrases m = map (λ r. r.phrase) m.relations

-- the attribute whose phrase is this text, and the relation
abbrev pub attribute_named : Lists → List ℕ → Option AttrId
attribute_named m phrase = option_map (λ n. record { 0 = n }) (position (bytes_eq phrase) (attribute_phrases m))

abbrev pub relation_named : Lists → List ℕ → Option RelId
relation_named m phrase = option_map (λ n. record { 0 = n }) (position (bytes_eq phrase) (relation_phrases m))
