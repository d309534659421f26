-- What holds of the lists of a model.
use Rattle.std.specs.Prelude.{ℕ, ◌≡◌, ◌≢◌, ◌<◌, ◌≤◌, ◌^◌, ◌↔◌, ◌++◌, false, length, flat_map, Some, IsTrue, IsSome, IfSome, All, AllPairs, slice_get}
use Rattle.opa_model.specs.declared.ids.AttrId.{AttrId}
use Rattle.opa_model.specs.declared.ids.EntityId.{EntityId}
use Rattle.opa_model.specs.declared.ids.RelId.{RelId}
use Rattle.opa_model.specs.declared.things.Attribute.{Attribute}
use Rattle.opa_model.specs.declared.things.Entity.{Entity}
use Rattle.opa_model.specs.declared.things.Item.{Item}
use Rattle.opa_model.specs.declared.things.Item.TheVariants.{Attr, Members}
use Rattle.opa_model.specs.declared.things.Kind.TheVariants as kind
use Rattle.opa_model.specs.declared.things.Relation.{Relation}
use Rattle.opa_model.specs.declared.things.Screen.{Screen}
use Rattle.opa_model.specs.declared.things.Sentence.{Sentence}
use Rattle.opa_model.specs.declared.lists.Lists.{Lists}
use Rattle.opa_model.specs.Lookups.{entity_at, attribute_at, relation_at, attribute_phrases, relation_phrases}

-- ids in range
abbrev pub HasEntity : Lists → EntityId → Type 0
HasEntity m id = id.0 < length m.entities

abbrev pub HasAttribute : Lists → AttrId → Type 0
HasAttribute m id = id.0 < length m.attributes

abbrev pub HasRelation : Lists → RelId → Type 0
HasRelation m id = id.0 < length m.relations

abbrev pub HasVerb : Lists → Sentence → Type 0
HasVerb m sentence = sentence.verb < length m.verbs

abbrev pub HasItem : Lists → Item → Type 0
HasItem m (Attr id) = HasAttribute m id
HasItem m (Members id) = HasRelation m id

-- each list has fewer than 2^32 items
pub record AreFew (m : Lists) : Type 0 where
  pub entities : length m.entities < 2 ^ 32
  pub attributes : length m.attributes < 2 ^ 32
  pub relations : length m.relations < 2 ^ 32
  pub verbs : length m.verbs < 2 ^ 32
  pub screens : length m.screens < 2 ^ 32
  pub goals : length m.goals < 2 ^ 32

-- each id and each number of a verb is in range, but for what the first entity is contained by
pub record AreInRange (m : Lists) : Type 0 where
  pub parents : All (λ (e : Entity). HasEntity m e.parent) m.entities
  pub owners : All (λ (a : Attribute). HasEntity m a.entity) m.attributes
  pub verbs : All (λ (a : Attribute). IfSome a.sentence (HasVerb m)) m.attributes
  pub sources : All (λ (r : Relation). HasEntity m r.source) m.relations
  pub targets : All (λ (r : Relation). HasEntity m r.target) m.relations
  pub items : All (λ (s : Screen). All (HasItem m) s.items) m.screens
  pub goals : All (HasAttribute m) m.goals

-- the entity of place n is contained in an earlier one, by a containment relation to many from that one to it
pub record IsContained (m : Lists) (n : ℕ) (e : Entity) : Type 0 where
  pub earlier : e.parent.0 < n
  pub relation : Relation
  pub by_it : relation_at m e.contained ≡ Some relation
  pub contains : IsTrue relation.contains
  pub to_many : relation.one ≡ false
  pub from_parent : relation.source ≡ e.parent
  pub to_it : relation.target.0 ≡ n

-- the relation of place n is the one by which its target is contained
pub record IsContainment (m : Lists) (n : ℕ) (r : Relation) : Type 0 where
  pub not_the_first : 0 < r.target.0
  pub target : Entity
  pub at_it : entity_at m r.target ≡ Some target
  pub by_it : target.contained.0 ≡ n

-- the relation is from the global entity to many of another one, and contains nothing
pub record IsOverAll (r : Relation) : Type 0 where
  pub contains_none : r.contains ≡ false
  pub to_many : r.one ≡ false
  pub from_global : r.source.0 ≡ 0
  pub to_another : r.target.0 ≢ 0

-- an answer has at most four decimals, and one of a currency at most two
pub record HasDecimals (a : Attribute) : Type 0 where
  pub few : a.decimals ≤ 4
  pub of_currency : a.kind ≡ kind.Currency → a.decimals ≤ 2

-- the lists are those of a model
pub record IsModel (m : Lists) : Type 0 where
  pub has_global : 0 < length m.entities
  pub few : AreFew m
  pub in_range : AreInRange m
  pub goals_are_global : All (λ id. IfSome (attribute_at m id) (λ a. a.entity.0 ≡ 0)) m.goals
  pub phrases_differ : AllPairs (λ p q. p ≢ q) (attribute_phrases m ++ relation_phrases m)
  pub decimals : All HasDecimals m.attributes
  pub bools_have_sentences : All (λ a. IsSome a.sentence ↔ (a.kind ≡ kind.Bool)) m.attributes
  pub items_differ : AllPairs (λ i j. i ≢ j) (flat_map (λ s. s.items) m.screens)
  pub contained : (n : ℕ) (e : Entity) → 0 < n → slice_get m.entities n ≡ Some e → IsContained m n e
  pub containments : (n : ℕ) (r : Relation) → slice_get m.relations n ≡ Some r → IsTrue r.contains → IsContainment m n r
  pub over_all : All (λ r. IsTrue r.every → IsOverAll r) m.relations
