-- A model of schools and pupils, for tests.
use Rattle.std.specs.Prelude.{ℕ, ◌≡◌, ◌≢◌, ◌≤◌, ◌<◌, ◌+◌, Bool, true, false, List, [], ◌∷◌, None, All, AllPairs, length, map}
use Rattle.opa_model.specs.declared.things.Attribute.{Attribute}
use Rattle.opa_model.specs.declared.things.Entity.{Entity}
use Rattle.opa_model.specs.declared.things.Kind.TheVariants as kinds
use Rattle.opa_model.specs.declared.things.Relation.{Relation}

abbrev pub entity_of : ℕ → ℕ → Entity
entity_of parent contained = record { phrase = []; parent = record { 0 = parent }; contained = record { 0 = contained } }

-- the global entity, schools, and pupils
abbrev pub sample_entities : List Entity
sample_entities = entity_of 0 0 ∷ entity_of 0 0 ∷ entity_of 1 1 ∷ []

abbrev pub relation_of : List ℕ → ℕ → ℕ → Bool → Bool → Bool → Relation
relation_of phrase source target contains one every = record { phrase = phrase; source = record { 0 = source }; target = record { 0 = target }; contains = contains; one = one; every = every }

-- the schools, a school's pupils, a school's twin, and all pupils
abbrev pub sample_relations : List ℕ → List ℕ → List ℕ → List ℕ → List Relation
sample_relations schools pupils twin roll = relation_of schools 0 1 true false false ∷ relation_of pupils 1 2 true false false ∷ relation_of twin 1 1 false true false ∷ relation_of roll 0 2 false false true ∷ []

-- an attribute of schools that isn't said by a sentence
pub record IsSample (a : Attribute) : Type 0 where
  pub of_school : a.entity.0 ≡ 1
  pub no_sentence : a.sentence ≡ None
  pub not_bool : a.kind ≢ kinds.Bool
  pub few : a.decimals ≤ 2

-- So many attributes, whose phrases have different lengths, and are longer than those of relations.
pub record AreSamples (count : ℕ) (attributes : List Attribute) : Type 0 where
  pub counted : length attributes ≡ count
  pub each : All IsSample attributes
  pub long : All (λ (p : List ℕ). 20 ≤ length p) (map (λ a. a.phrase) attributes)
  pub short : All (λ (p : List ℕ). length p < 20 + count) (map (λ a. a.phrase) attributes)
  pub differ : AllPairs (λ p q. p ≢ q) (map (λ a. a.phrase) attributes)
