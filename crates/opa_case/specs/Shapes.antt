-- What is declared, as functions of places. Entity 0 is the global one.
use Rattle.std.specs.Prelude.{◌≡◌, ◌<◌, ◌≤◌, ℕ, pos, Bool, true, false, [], length, unwrap_or, None}
use Rattle.opa_model.specs.declared.ids.AttrId.{AttrId}
use Rattle.opa_model.specs.declared.ids.RelId.{RelId}
use Rattle.opa_model.specs.declared.lists.Lists.{Lists}
use Rattle.opa_model.specs.declared.things.Attribute.{Attribute}
use Rattle.opa_model.specs.declared.things.Entity.{Entity}
use Rattle.opa_model.specs.declared.things.Kind.TheVariants as kinds
use Rattle.opa_model.specs.declared.things.Relation.{Relation}
use Rattle.opa_model.specs.Lookups.{entity_at, attribute_at, relation_at}
use Rattle.opa_case.specs.declared.declared.Nest.{Nest}
use Rattle.opa_case.specs.declared.declared.Bond.{Bond}

pub record Shape : Type 0 where
  -- how many entities there are, the parent of each, and the relation that contains its instances
  pub count : ℕ
  pub parent : ℕ → ℕ
  pub contained : ℕ → RelId
  pub relations : ℕ
  pub source : RelId → ℕ
  pub target : RelId → ℕ
  pub contains : RelId → Bool
  pub one : RelId → Bool
  pub every : RelId → Bool
  pub attributes : ℕ
  pub attribute : AttrId → Attribute

-- what stands for an id that isn't declared
abbrev pub no_entity : Entity
no_entity = record { phrase = []; parent = record { 0 = 0 }; contained = record { 0 = 0 } }

abbrev pub no_relation : Relation
no_relation = record { phrase = []; source = record { 0 = 0 }; target = record { 0 = 0 }; contains = false; one = false; every = false }

abbrev pub no_attribute : Attribute
no_attribute = record { entity = record { 0 = 0 }; kind = kinds.Bool; phrase = []; sentence = None; least = pos 0; most = pos 0; decimals = 0 }

abbrev pub entity_or : Lists → ℕ → Entity
entity_or m e = unwrap_or (entity_at m (record { 0 = e })) no_entity

abbrev pub relation_or : Lists → RelId → Relation
relation_or m r = unwrap_or (relation_at m r) no_relation

abbrev pub attribute_or : Lists → AttrId → Attribute
attribute_or m a = unwrap_or (attribute_at m a) no_attribute

-- what is declared of an entity and of a relation, but for their phrases
abbrev pub nest_of : Lists → ℕ → Nest
nest_of m e = record { parent = (entity_or m e).parent.0; contained = (entity_or m e).contained }

abbrev pub bond_of : Lists → RelId → Bond
bond_of m r = record { source = (relation_or m r).source.0; target = (relation_or m r).target.0; contains = (relation_or m r).contains; one = (relation_or m r).one; every = (relation_or m r).every }

-- what a model declares
abbrev pub shape_of : Lists → Shape
shape_of m = record {
  count = length m.entities;
  parent = λ e. (entity_or m e).parent.0;
  contained = λ e. (entity_or m e).contained;
  relations = length m.relations;
  source = λ r. (relation_or m r).source.0;
  target = λ r. (relation_or m r).target.0;
  contains = λ r. (relation_or m r).contains;
  one = λ r. (relation_or m r).one;
  every = λ r. (relation_or m r).every;
  attributes = length m.attributes;
  attribute = attribute_or m;
}

-- Each entity but the first has an earlier parent, and one containment relation from it. A currency has at most two decimals.
pub record IsShape (s : Shape) : Type 0 where
  pub some : 0 < s.count
  pub earlier : (e : ℕ) → 0 < e → e < s.count → s.parent e < e
  pub contains : (e : ℕ) → 0 < e → e < s.count → s.contains (s.contained e) ≡ true
  pub target : (e : ℕ) → 0 < e → e < s.count → s.target (s.contained e) ≡ e
  pub source : (e : ℕ) → 0 < e → e < s.count → s.source (s.contained e) ≡ s.parent e
  pub no_other : (r : RelId) → s.contains r ≡ true → r ≡ s.contained (s.target r)
  pub target_in : (r : RelId) → s.contains r ≡ true → (0 < s.target r) × (s.target r < s.count)
  pub inside : (r : RelId) → s.target r < s.count
  pub to_many : (r : RelId) → s.contains r ≡ true → s.one r ≡ false
  pub every : (r : RelId) → s.every r ≡ true → s.contains r ≡ false
  pub over_another : (r : RelId) → s.every r ≡ true → 0 < s.target r
  pub currency : (a : AttrId) → (s.attribute a).kind ≡ kinds.Currency → (s.attribute a).decimals ≤ 2
