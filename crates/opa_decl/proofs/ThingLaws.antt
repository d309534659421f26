-- How many entities, attributes, relations and verbs items declare, and under which numbers and names.
use Rattle.std.proofs.Common.{◌≡◌, ◌∙◌, ◌+◌, ◌≤◌, ℕ, List, length, map, refl, sym, ap, arith}
use Rattle.std.specs.Prelude.{flat_map}
use Rattle.std.proofs.lemmas.List.{length-map}
use Rattle.opa_model.specs.declared.things.Attribute.{Attribute}
use Rattle.opa_model.specs.declared.things.Entity.{Entity}
use Rattle.opa_model.specs.declared.things.Relation.{Relation}
use Rattle.opa_model.specs.declared.things.Verb.{Verb}
use Rattle.opa_decl.specs.declared.items.Item.{Item}
use Rattle.opa_decl.specs.declared.items.Item.TheVariants as item
use Rattle.opa_decl.specs.declared.items.Name.{Name}
use Rattle.opa_decl.specs.declared.numbered.Counts.{Counts}
use Rattle.opa_decl.specs.declared.numbered.Numbered.{Numbered}
use Rattle.opa_decl.specs.Lists.{entity_by, entity_in, attribute_by, attribute_in, relation_by, relation_in}
use Rattle.opa_decl.specs.Names.{Tables, texts, entity_name, attribute_name, relation_name, verb_in}
use Rattle.opa_decl.specs.Numbering.{numbered, counts_after}
use Rattle.opa_decl.proofs.NumberedLaws.{map-flat_map, flat_map-same, whatever_number}

abbrev pub verb_of : Numbered → List Verb
verb_of n = verb_in n.item

pub verbs_counted : (c : Counts) (i : Item) → (counts_after c i).verbs ≡ c.verbs + length (verb_in i)
verbs_counted c (item.Verb v) = omega arith
verbs_counted c (item.Entity e) = omega arith
verbs_counted c (item.Attribute a) = omega arith
verbs_counted c (item.Relation r) = omega arith
verbs_counted c (item.Goal g) = omega arith
verbs_counted c (item.Screen s) = omega arith
verbs_counted c (item.File f) = omega arith

module _ (t : Tables) where
  pub entities_counted : (c : Counts) (i : Item) → (counts_after c i).entities ≡ c.entities + length (entity_in t (record { before = c; item = i }))
  entities_counted c (item.Verb v) = omega arith
  entities_counted c (item.Entity e) = omega arith
  entities_counted c (item.Attribute a) = omega arith
  entities_counted c (item.Relation r) = omega arith
  entities_counted c (item.Goal g) = omega arith
  entities_counted c (item.Screen s) = omega arith
  entities_counted c (item.File f) = omega arith

  pub attributes_counted : (c : Counts) (i : Item) → (counts_after c i).attributes ≡ c.attributes + length (attribute_in t (record { before = c; item = i }))
  attributes_counted c (item.Verb v) = omega arith
  attributes_counted c (item.Entity e) = omega arith
  attributes_counted c (item.Attribute a) = omega arith
  attributes_counted c (item.Relation r) = omega arith
  attributes_counted c (item.Goal g) = omega arith
  attributes_counted c (item.Screen s) = omega arith
  attributes_counted c (item.File f) = omega arith

  pub relations_counted : (c : Counts) (i : Item) → (counts_after c i).relations ≡ c.relations + length (relation_in t (record { before = c; item = i }))
  relations_counted c (item.Verb v) = omega arith
  relations_counted c (item.Entity e) = omega arith
  relations_counted c (item.Attribute a) = omega arith
  relations_counted c (item.Relation r) = omega arith
  relations_counted c (item.Goal g) = omega arith
  relations_counted c (item.Screen s) = omega arith
  relations_counted c (item.File f) = omega arith

  -- ---- one of each at most

  entity-short : (n : Numbered) (i : Item) → length (entity_by t n i) ≤ 1
  entity-short n (item.Verb v) = omega arith
  entity-short n (item.Entity e) = omega arith
  entity-short n (item.Attribute a) = omega arith
  entity-short n (item.Relation r) = omega arith
  entity-short n (item.Goal g) = omega arith
  entity-short n (item.Screen s) = omega arith
  entity-short n (item.File f) = omega arith

  attribute-short : (n : Numbered) (i : Item) → length (attribute_by t n i) ≤ 1
  attribute-short n (item.Verb v) = omega arith
  attribute-short n (item.Entity e) = omega arith
  attribute-short n (item.Attribute a) = omega arith
  attribute-short n (item.Relation r) = omega arith
  attribute-short n (item.Goal g) = omega arith
  attribute-short n (item.Screen s) = omega arith
  attribute-short n (item.File f) = omega arith

  relation-short : (n : Numbered) (i : Item) → length (relation_by t n i) ≤ 1
  relation-short n (item.Verb v) = omega arith
  relation-short n (item.Entity e) = omega arith
  relation-short n (item.Attribute a) = omega arith
  relation-short n (item.Relation r) = omega arith
  relation-short n (item.Goal g) = omega arith
  relation-short n (item.Screen s) = omega arith
  relation-short n (item.File f) = omega arith

  pub one_entity : (n : Numbered) → length (entity_in t n) ≤ 1
  one_entity n = entity-short n n.item

  pub one_attribute : (n : Numbered) → length (attribute_in t n) ≤ 1
  one_attribute n = attribute-short n n.item

  pub one_relation : (n : Numbered) → length (relation_in t n) ≤ 1
  one_relation n = relation-short n n.item

  -- ---- their phrases are the names of the items

  entity_phrase : (n : Numbered) (i : Item) → map (λ e. e.phrase) (entity_by t n i) ≡ texts (entity_name i)
  entity_phrase n (item.Verb v) = refl
  entity_phrase n (item.Entity e) = refl
  entity_phrase n (item.Attribute a) = refl
  entity_phrase n (item.Relation r) = refl
  entity_phrase n (item.Goal g) = refl
  entity_phrase n (item.Screen s) = refl
  entity_phrase n (item.File f) = refl

  attribute_phrase : (n : Numbered) (i : Item) → map (λ a. a.phrase) (attribute_by t n i) ≡ texts (attribute_name i)
  attribute_phrase n (item.Verb v) = refl
  attribute_phrase n (item.Entity e) = refl
  attribute_phrase n (item.Attribute a) = refl
  attribute_phrase n (item.Relation r) = refl
  attribute_phrase n (item.Goal g) = refl
  attribute_phrase n (item.Screen s) = refl
  attribute_phrase n (item.File f) = refl

  relation_phrase : (n : Numbered) (i : Item) → map (λ r. r.phrase) (relation_by t n i) ≡ texts (relation_name i)
  relation_phrase n (item.Verb v) = refl
  relation_phrase n (item.Entity e) = refl
  relation_phrase n (item.Attribute a) = refl
  relation_phrase n (item.Relation r) = refl
  relation_phrase n (item.Goal g) = refl
  relation_phrase n (item.Screen s) = refl
  relation_phrase n (item.File f) = refl

  named_by : {A : Type 0} (phrase : A → List ℕ) (f : Numbered → List A) (name : Item → List Name) (same : (n : Numbered) → map phrase (f n) ≡ texts (name n.item)) (c : Counts) (items : List Item)
      → map phrase (flat_map f (numbered c items)) ≡ texts (flat_map name items)
  named_by phrase f name same c items =
      map-flat_map phrase f (numbered c items)
      ∙ flat_map-same (λ (n : Numbered). map phrase (f n)) (λ (n : Numbered). texts (name n.item)) same (numbered c items)
      ∙ whatever_number (λ (i : Item). texts (name i)) c items
      ∙ sym (map-flat_map (λ (x : Name). x.text) name items)

  pub entity_phrases : (c : Counts) (items : List Item) → map (λ e. e.phrase) (flat_map (entity_in t) (numbered c items)) ≡ texts (flat_map entity_name items)
  entity_phrases = named_by (λ (e : Entity). e.phrase) (entity_in t) entity_name (λ n. entity_phrase n n.item)

  pub attribute_phrases_are : (c : Counts) (items : List Item) → map (λ a. a.phrase) (flat_map (attribute_in t) (numbered c items)) ≡ texts (flat_map attribute_name items)
  attribute_phrases_are = named_by (λ (a : Attribute). a.phrase) (attribute_in t) attribute_name (λ n. attribute_phrase n n.item)

  pub relation_phrases_are : (c : Counts) (items : List Item) → map (λ r. r.phrase) (flat_map (relation_in t) (numbered c items)) ≡ texts (flat_map relation_name items)
  relation_phrases_are = named_by (λ (r : Relation). r.phrase) (relation_in t) relation_name (λ n. relation_phrase n n.item)

  -- so there are as many of them as names
  pub entities_named : (c : Counts) (items : List Item) → length (flat_map (entity_in t) (numbered c items)) ≡ length (texts (flat_map entity_name items))
  entities_named c items = sym (length-map (flat_map (entity_in t) (numbered c items)) (λ (e : Entity). e.phrase)) ∙ ap length (entity_phrases c items)

  pub attributes_named : (c : Counts) (items : List Item) → length (flat_map (attribute_in t) (numbered c items)) ≡ length (texts (flat_map attribute_name items))
  attributes_named c items = sym (length-map (flat_map (attribute_in t) (numbered c items)) (λ (a : Attribute). a.phrase)) ∙ ap length (attribute_phrases_are c items)

  pub relations_named : (c : Counts) (items : List Item) → length (flat_map (relation_in t) (numbered c items)) ≡ length (texts (flat_map relation_name items))
  relations_named c items = sym (length-map (flat_map (relation_in t) (numbered c items)) (λ (r : Relation). r.phrase)) ∙ ap length (relation_phrases_are c items)
