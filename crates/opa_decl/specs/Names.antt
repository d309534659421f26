-- The names of declared things, in written order, and places by names.
use Rattle.std.specs.Prelude.{ℕ, List, [], ◌∷◌, map, flat_map, length, Bool, Option, Some, None, unwrap_or, nat_lt, slice_get}
use Rattle.opa_words.specs.Phrases.{first_position}
use Rattle.opa_model.specs.declared.things.Verb.{Verb}
use Rattle.opa_model.specs.declared.things.Sentence.{Sentence}
use Rattle.opa_verbs.specs.declared.sentence.Form.TheVariants.{Negative}
use Rattle.opa_verbs.specs.Forms.{spoken}
use Rattle.opa_decl.specs.declared.items.Item.{Item}
use Rattle.opa_decl.specs.declared.items.Item.TheVariants as item
use Rattle.opa_decl.specs.declared.items.Name.{Name}
use Rattle.opa_decl.specs.declared.items.Place.{Place}
use Rattle.opa_decl.specs.declared.items.Said.{Said}
use Rattle.opa_decl.specs.declared.items.Sort.{Sort}
use Rattle.opa_decl.specs.declared.items.Sort.TheVariants as sort

abbrev pub texts : List Name → List (List ℕ)
texts names = map (λ n. n.text) names

-- the place of the first of these texts that is this one; behind the last where none is
unfoldable pub place : List (List ℕ) → List ℕ → ℕ
place names text = unwrap_or (first_position text 0 names) (length names)

-- one of the texts is this one
abbrev pub is_declared : List (List ℕ) → List ℕ → Bool
is_declared names text = nat_lt (place names text) (length names)

-- a verb is named by its POS
abbrev pub verb_name : Item → List Name
verb_name (item.Verb v) = record { place = v.place; text = v.verb.positive } ∷ []
verb_name i = []

abbrev pub entity_name : Item → List Name
entity_name (item.Entity e) = e.phrase ∷ []
entity_name i = []

abbrev pub attribute_name : Item → List Name
attribute_name (item.Attribute a) = a.phrase ∷ []
attribute_name i = []

abbrev pub relation_name : Item → List Name
relation_name (item.Entity e) = e.inside ∷ []
relation_name (item.Relation r) = r.phrase ∷ []
relation_name i = []

abbrev pub goal_name : Item → List Name
goal_name (item.Goal g) = g ∷ []
goal_name i = []

abbrev pub screen_name : Item → List Name
screen_name (item.Screen s) = s.items
screen_name i = []

abbrev pub file_name : Item → List Name
file_name (item.File f) = f ∷ []
file_name i = []

abbrev pub verb_in : Item → List Verb
verb_in (item.Verb v) = v.verb ∷ []
verb_in i = []

-- what is declared, by its names
pub record Tables : Type 0 where
  pub verbs : List (List ℕ)
  pub entities : List (List ℕ)
  pub attributes : List (List ℕ)
  pub relations : List (List ℕ)

unfoldable pub tables_of : List Item → Tables
tables_of items = record { verbs = texts (flat_map verb_name items); entities = texts (flat_map entity_name items); attributes = texts (flat_map attribute_name items); relations = texts (flat_map relation_name items) }

-- SUBJECT and REST with the verb whose POS stands there
abbrev pub sentence : List (List ℕ) → Said → Sentence
sentence verb_names said = record { subject = said.subject; verb = place verb_names said.positive; rest = said.rest }

-- the negative form with a verb, if there is one
abbrev pub denied : List (List ℕ) → Place → Said → Option Verb → List Name
denied verb_names at said None = []
denied verb_names at said (Some v) = record { place = at; text = spoken v (sentence verb_names said) Negative } ∷ []

abbrev pub negative : List (List ℕ) → List Verb → Place → Sort → List Name
negative verb_names verbs at (sort.Bool said) = denied verb_names at said (slice_get verbs (place verb_names said.positive))
negative verb_names verbs at (sort.Number b) = []
negative verb_names verbs at (sort.Currency b) = []
negative verb_names verbs at sort.Words = []
negative verb_names verbs at sort.Date = []

-- the texts by which rules know an item: its phrase, and its negative form
abbrev pub forms : List (List ℕ) → List Verb → Item → List Name
forms verb_names verbs (item.Verb v) = []
forms verb_names verbs (item.Entity e) = e.inside ∷ []
forms verb_names verbs (item.Attribute a) = a.phrase ∷ negative verb_names verbs a.phrase.place a.sort
forms verb_names verbs (item.Relation r) = r.phrase ∷ []
forms verb_names verbs (item.Goal g) = []
forms verb_names verbs (item.Screen s) = []
forms verb_names verbs (item.File f) = []
