-- The lists that are made of items, and what is known of items without a fault.
use Rattle.std.proofs.Common.{◌≡◌, ◌<◌, ℕ, Bool, true, false, not, List, [], ◌∷◌, map, nat_lt, All, refl}
use Rattle.std.specs.Prelude.{flat_map}
use Rattle.std.proofs.lemmas.Bool.{ltb-true, not-false}
use Rattle.std.proofs.lemmas.List.Elements.{All-nil, All-cons, All-head, All-tail}
use Rattle.opa_model.specs.declared.ids.AttrId.{AttrId}
use Rattle.opa_model.specs.declared.lists.Lists.{Lists}
use Rattle.opa_model.specs.declared.things.Attribute.{Attribute}
use Rattle.opa_model.specs.declared.things.Entity.{Entity}
use Rattle.opa_model.specs.declared.things.Relation.{Relation}
use Rattle.opa_tree.specs.declared.faults.RbKind.{RbKind}
use Rattle.opa_tree.specs.declared.faults.RbKind.TheVariants.{Name as Unnamed}
use Rattle.opa_decl.specs.declared.items.Item.{Item}
use Rattle.opa_decl.specs.declared.items.Place.{Place}
use Rattle.opa_decl.specs.declared.numbered.Counts.{Counts}
use Rattle.opa_decl.specs.declared.numbered.Numbered.{Numbered}
use Rattle.opa_decl.specs.Faults.{when, faults_by, twice_faults, limit_faults, name_faults, scope_faults, repeated}
use Rattle.opa_decl.specs.Lists.{global_entity, entity_in, attribute_in, relation_in, screen_by, goal_by}
use Rattle.opa_decl.specs.Names.{Tables, tables_of, texts, verb_name, entity_name, attribute_name, relation_name, goal_name, screen_name, verb_in, forms}
use Rattle.opa_decl.specs.Numbering.{numbered, no_counts, counts_after}
use Rattle.opa_decl.proofs.NumberedLaws.{no_parts, nothing}

module _ (t : Tables) (items : List Item) where
  abbrev pub entities : List Entity
  entities = global_entity ∷ flat_map (entity_in t) (numbered no_counts items)

  abbrev pub attributes : List Attribute
  attributes = flat_map (attribute_in t) (numbered no_counts items)

  abbrev pub relations : List Relation
  relations = flat_map (relation_in t) (numbered no_counts items)

  abbrev pub goals : List AttrId
  goals = map (goal_by t) (flat_map goal_name items)

  abbrev pub made : Lists
  made = record { entities = entities; attributes = attributes; relations = relations; verbs = flat_map verb_in items; screens = flat_map (screen_by t) items; goals = goals }

  -- the tables have the names of the items
  pub record AreNamed : Type 0 where
    pub entities_are : t.entities ≡ texts (flat_map entity_name items)
    pub attributes_are : t.attributes ≡ texts (flat_map attribute_name items)
    pub relations_are : t.relations ≡ texts (flat_map relation_name items)

  -- no name is unknown, no goal is of another entity, and nothing stands twice
  pub record AreFaultless : Type 0 where
    pub known : All (λ n. name_faults t n ≡ []) (numbered no_counts items)
    pub scoped : All (λ g. scope_faults t attributes g ≡ []) (flat_map goal_name items)
    pub forms_once : repeated [] (flat_map (forms t.verbs (flat_map verb_in items)) items) ≡ []
    pub shown_once : repeated [] (flat_map screen_name items) ≡ []

pub named_by_tables : (items : List Item) → AreNamed (tables_of items) items
unfolding tables_of
named_by_tables items = record { entities_are = refl; attributes_are = refl; relations_are = refl }

twice_parts : (t : Tables) (items : List Item) → twice_faults t items ≡ [] → (repeated [] (flat_map (forms t.verbs (flat_map verb_in items)) items) ≡ []) × (repeated [] (flat_map screen_name items) ≡ [])
unfolding twice_faults
twice_parts t items h =
    let v = no_parts (repeated [] (flat_map verb_name items)) _ h in
    let e = no_parts (repeated [] (flat_map entity_name items)) _ v.1 in
    let f = no_parts (repeated [] (flat_map (forms t.verbs (flat_map verb_in items)) items)) _ e.1 in
    let g = no_parts (repeated [] (flat_map goal_name items)) _ f.1 in
    let s = no_parts (repeated [] (flat_map screen_name items)) _ g.1 in
    (f.0, s.0)

pub without_fault : (t : Tables) (items : List Item) → faults_by t items (numbered no_counts items) ≡ [] → AreFaultless t items
unfolding faults_by
without_fault t items h =
    let ns = numbered no_counts items in
    let l = no_parts (flat_map limit_faults ns) _ h in
    let n = no_parts (flat_map (name_faults t) ns) _ l.1 in
    let s = no_parts (flat_map (scope_faults t (flat_map (attribute_in t) ns)) (flat_map goal_name items)) _ n.1 in
    let w = twice_parts t items s.1 in
    record {
      known = nothing (name_faults t) ns n.0;
      scoped = nothing (scope_faults t (flat_map (attribute_in t) ns)) (flat_map goal_name items) s.0;
      forms_once = w.0;
      shown_once = w.1;
    }

-- ---- tests that find no fault

pub not_when : (b : Bool) (k : RbKind) (at : Place) → when b k at ≡ [] → b ≡ false
not_when true k at h = absurd (cc h)
not_when false k at h = refl

-- a number that is not too great
pub below : (m n : ℕ) (at : Place) → when (not (nat_lt m n)) Unnamed at ≡ [] → m < n
below m n at h = ltb-true m n (not-false (nat_lt m n) (not_when (not (nat_lt m n)) Unnamed at h))

-- what holds of all items holds of them when they have numbers
pub all_numbered : (P : Item → Type 0) (c : Counts) (items : List Item) → All P items → All (λ n. P n.item) (numbered c items)
all_numbered P c [] h = All-nil (λ n. P n.item)
all_numbered P c (i ∷ is) h =
    All-cons (λ (n : Numbered). P n.item) (record { before = c; item = i }) (numbered (counts_after c i) is) (All-head P i is h) (all_numbered P (counts_after c i) is (All-tail P i is h))
