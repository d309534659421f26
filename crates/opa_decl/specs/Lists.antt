-- The model that items declare.
use Rattle.std.specs.Prelude.{ℕ, ◌+◌, ◌-◌, pos, List, [], ◌∷◌, map, flat_map, Bool, true, false, Option, Some, None, if◌then◌else◌}
use Rattle.opa_model.specs.declared.ids.AttrId.{AttrId}
use Rattle.opa_model.specs.declared.ids.EntityId.{EntityId}
use Rattle.opa_model.specs.declared.lists.Lists.{Lists}
use Rattle.opa_model.specs.declared.things.Attribute.{Attribute}
use Rattle.opa_model.specs.declared.things.Entity.{Entity}
use Rattle.opa_model.specs.declared.things.Item.{Item as Shown}
use Rattle.opa_model.specs.declared.things.Item.TheVariants.{Attr, Members}
use Rattle.opa_model.specs.declared.things.Kind.{Kind}
use Rattle.opa_model.specs.declared.things.Kind.TheVariants as kind
use Rattle.opa_model.specs.declared.things.Relation.{Relation}
use Rattle.opa_model.specs.declared.things.Screen.{Screen}
use Rattle.opa_model.specs.declared.things.Sentence.{Sentence}
use Rattle.opa_decl.specs.declared.items.Bounds.{Bounds}
use Rattle.opa_decl.specs.declared.items.Item.{Item}
use Rattle.opa_decl.specs.declared.items.Item.TheVariants as item
use Rattle.opa_decl.specs.declared.items.Name.{Name}
use Rattle.opa_decl.specs.declared.items.Sort.{Sort}
use Rattle.opa_decl.specs.declared.items.Sort.TheVariants as sort
use Rattle.opa_decl.specs.declared.numbered.Numbered.{Numbered}
use Rattle.opa_decl.specs.Names.{Tables, place, is_declared, sentence, verb_in, goal_name}
use Rattle.opa_decl.specs.Numbering.{is_every, is_one}

-- The first entity has an empty phrase, itself as its parent, and 0 as what contains it.
abbrev pub global_entity : Entity
global_entity = record { phrase = []; parent = record { 0 = 0 }; contained = record { 0 = 0 } }

-- the entity of a line: the global one, or the last that is declared
abbrev pub owner : Numbered → Bool → EntityId
owner n true = record { 0 = 0 }
owner n false = record { 0 = n.before.entities - 1 }

-- an `every` line is of the global entity
abbrev pub source : Numbered → Bool → Bool → EntityId
source n every of_global = if every then record { 0 = 0 } else owner n of_global

abbrev pub kind_of : Sort → Kind
kind_of (sort.Bool said) = kind.Bool
kind_of (sort.Number b) = kind.Number
kind_of (sort.Currency b) = kind.Currency
kind_of sort.Words = kind.Words
kind_of sort.Date = kind.Date

abbrev pub no_bounds : Bounds
no_bounds = record { least = pos 0; most = pos 0; decimals = 0 }

abbrev pub bounds_in : Sort → Bounds
bounds_in (sort.Bool said) = no_bounds
bounds_in (sort.Number b) = b
bounds_in (sort.Currency b) = b
bounds_in sort.Words = no_bounds
bounds_in sort.Date = no_bounds

abbrev pub sentence_in : List (List ℕ) → Sort → Option Sentence
sentence_in verb_names (sort.Bool said) = Some (sentence verb_names said)
sentence_in verb_names (sort.Number b) = None
sentence_in verb_names (sort.Currency b) = None
sentence_in verb_names sort.Words = None
sentence_in verb_names sort.Date = None

-- A name that is not declared is a fault, so that what stands in its place is never seen.
module _ (t : Tables) where
  -- entities are counted behind the global one
  abbrev pub entity_named : List ℕ → EntityId
  entity_named text = record { 0 = 1 + place t.entities text }

  abbrev pub parent_of : Option Name → EntityId
  parent_of None = record { 0 = 0 }
  parent_of (Some p) = entity_named p.text

  abbrev pub entity_by : Numbered → Item → List Entity
  entity_by n (item.Verb v) = []
  entity_by n (item.Entity e) = record { phrase = e.phrase.text; parent = parent_of e.parent; contained = record { 0 = n.before.relations } } ∷ []
  entity_by n (item.Attribute a) = []
  entity_by n (item.Relation r) = []
  entity_by n (item.Goal g) = []
  entity_by n (item.Screen s) = []
  entity_by n (item.File f) = []

  abbrev pub attribute_by : Numbered → Item → List Attribute
  attribute_by n (item.Verb v) = []
  attribute_by n (item.Entity e) = []
  attribute_by n (item.Attribute a) = record { entity = owner n a.of_global; kind = kind_of a.sort; phrase = a.phrase.text; sentence = sentence_in t.verbs a.sort; least = (bounds_in a.sort).least; most = (bounds_in a.sort).most; decimals = (bounds_in a.sort).decimals } ∷ []
  attribute_by n (item.Relation r) = []
  attribute_by n (item.Goal g) = []
  attribute_by n (item.Screen s) = []
  attribute_by n (item.File f) = []

  abbrev pub relation_by : Numbered → Item → List Relation
  relation_by n (item.Verb v) = []
  relation_by n (item.Entity e) = record { phrase = e.inside.text; source = parent_of e.parent; target = record { 0 = n.before.entities }; contains = true; one = false; every = false } ∷ []
  relation_by n (item.Attribute a) = []
  relation_by n (item.Relation r) = record { phrase = r.phrase.text; source = source n (is_every r.reach) r.of_global; target = entity_named r.target.text; contains = false; one = is_one r.reach; every = is_every r.reach } ∷ []
  relation_by n (item.Goal g) = []
  relation_by n (item.Screen s) = []
  relation_by n (item.File f) = []

  -- an attribute or a relation on a screen
  abbrev pub shown : Name → Shown
  shown n = if is_declared t.attributes n.text then Attr (record { 0 = place t.attributes n.text }) else Members (record { 0 = place t.relations n.text })

  abbrev pub screen_by : Item → List Screen
  screen_by (item.Screen s) = record { title = s.title.text; items = map shown s.items } ∷ []
  screen_by i = []

  abbrev pub goal_by : Name → AttrId
  goal_by g = record { 0 = place t.attributes g.text }

  abbrev pub entity_in : Numbered → List Entity
  entity_in n = entity_by n n.item

  abbrev pub attribute_in : Numbered → List Attribute
  attribute_in n = attribute_by n n.item

  abbrev pub relation_in : Numbered → List Relation
  relation_in n = relation_by n n.item

-- the lists of the model
unfoldable pub lists_of : Tables → List Item → List Numbered → Lists
lists_of t items ns = record {
  entities = global_entity ∷ flat_map (entity_in t) ns;
  attributes = flat_map (attribute_in t) ns;
  relations = flat_map (relation_in t) ns;
  verbs = flat_map verb_in items;
  screens = flat_map (screen_by t) items;
  goals = map (goal_by t) (flat_map goal_name items);
}
