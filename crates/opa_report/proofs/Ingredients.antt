-- The slots, keys and instances that a report is made from, over the lists of live instances.
use Rattle.std.proofs.Common.{◌≡◌, ℕ, ◌<◌, Bool, List, [], ◌∷◌, map, filter, flat_map, length, Option, None, Some, IsSome, is_some, Contains, refl, sym, ◌∙◌, ap}
use Rattle.std.specs.Prelude.{slice_get, slice_index_or, unwrap_or, true, ◌&&◌, nat_lt}
use Rattle.std.proofs.lemmas.Bool.{and_parts, eqb-true, ltb-true}
use Rattle.opa_io.proofs.Places.{All_at}
use Rattle.opa_date.specs.declared.TheConstants.{DAYS}
use Rattle.opa_model.specs.declared.ids.AttrId.{AttrId}
use Rattle.opa_model.specs.declared.ids.RelId.{RelId}
use Rattle.opa_model.specs.declared.lists.Lists.{Lists}
use Rattle.opa_model.specs.declared.things.Relation.{Relation}
use Rattle.opa_model.specs.Models.{IsModel, HasEntity}
use Rattle.opa_cells.specs.declared.instance.InstanceId.{InstanceId}
use Rattle.opa_case.specs.Cases.{CaseView}
use Rattle.opa_case.specs.Instances.{AreInstances}
use Rattle.opa_case.specs.Live.{is_live, members}
use Rattle.opa_case.specs.Shapes.{attribute_or, relation_or, no_relation, shape_of}
use Rattle.opa_tree.specs.declared.rulebase.Rulebase.{Rulebase}
use Rattle.opa_tree.specs.declared.rules.Rule.{Rule}
use Rattle.opa_tree.specs.Rules.{rule_of}
use Rattle.opa_mean.specs.Given.{base_of, facts_of}
use Rattle.opa_mean.specs.Mean.{Base, Facts, IsLive}
use Rattle.opa_mean.specs.Places.{owner_of, is_of}
use Rattle.opa_mean.specs.Rulebases.{IsOf}
use Rattle.opa_mean.specs.Slots.{has_place}
use Rattle.opa_mean.specs.Uses.{Point}
use Rattle.opa_mean.proofs.Fitting.{live_in}
use Rattle.opa_mean.proofs.LawsOver.{base, facts}
use Rattle.opa_mean.proofs.SlotCounts.{owned_are_members}
use Rattle.opa_mean.proofs.SlotsAre.{ruled_declared}
use Rattle.opa_mean.proofs.Owned.{owner_within}
use Rattle.opa_report.specs.Promises.{is_point}
use Rattle.opa_report.specs.ReportLines.{by_rank, relations, of_entity, with_instances, slots, keys}
use Rattle.opa_report.specs.Reporting.{AreOf, IsPlaced, slots_over, keys_over}
use Rattle.opa_report.proofs.Living.{all_live}
use Rattle.opa_report.proofs.Ordering.{are_slots}
use Rattle.opa_report.proofs.Placing.{placed}

source_within : (m : Lists) → IsModel m → (q : RelId) → (shape_of m).source q < length m.entities
source_within m is q = go (slice_get m.relations q.0) refl
  where
    go : (o : Option Relation) → slice_get m.relations q.0 ≡ o → (unwrap_or o no_relation).source.0 < length m.entities
    go None e = is.has_global
    go (Some x) e = All_at (λ (y : Relation). HasEntity m y.source) m.relations q.0 x e is.in_range.sources

module _ (r : Rulebase) (c : CaseView) (is : IsOf r c) (live : List (List InstanceId)) (are : AreInstances (length r.model.entities) c live) where
  -- the list of an entity has its live instances
  listed : (e : ℕ) → e < length r.model.entities → slice_index_or live e [] ≡ of_entity (facts_of c) e
  listed e lt = are.in_order e lt ∙ sym (owned_are_members r c is e)

  slots_are : slots_over (base_of r) live ≡ slots (base_of r) (facts_of c)
  slots_are = ap (λ (f : AttrId → List (AttrId × InstanceId)). flat_map f (by_rank (base_of r))) (λ i a. same a i)
    where
      same : (a : AttrId) → map {B = AttrId × InstanceId} (λ i. (a, i)) (slice_index_or live (owner_of (shape_of r.model) a) []) ≡ with_instances (base_of r) (facts_of c) a
      same a = ap (λ (is : List InstanceId). map {B = AttrId × InstanceId} (λ i. (a, i)) is) (listed (owner_of (shape_of r.model) a) (owner_within r.model is.is_model a))

  keys_are : keys_over (base_of r) live ≡ keys (base_of r) (facts_of c)
  keys_are = ap (λ (f : RelId → List (RelId × InstanceId)). flat_map f (relations (base_of r).shape.relations)) (λ i q. same q i)
    where
      same : (q : RelId) → map {B = RelId × InstanceId} (λ i. (q, i)) (slice_index_or live ((shape_of r.model).source q) []) ≡ map {B = RelId × InstanceId} (λ i. (q, i)) (of_entity (facts_of c) ((shape_of r.model).source q))
      same q = ap (λ (is : List InstanceId). map {B = RelId × InstanceId} (λ i. (q, i)) is) (listed ((shape_of r.model).source q) (source_within r.model is.is_model q))

  declared : (a : AttrId) → IsSome (rule_of r.rules a) → a.0 < (shape_of r.model).attributes
  declared a h = ruled_declared r a (go (rule_of r.rules a) h)
    where
      go : (o : Option Rule) → IsSome o → is_some o ≡ true
      go None h = absurd (cc h)
      go (Some x) h = refl

  pub are_of : (ss : List (AttrId × InstanceId)) (ks : List (RelId × InstanceId)) (all : List InstanceId) → ss ≡ slots_over (base_of r) live → ks ≡ keys_over (base_of r) live → all ≡ flat_map (λ xs. xs) live → AreOf (base_of r) (facts_of c) ss ks all
  are_of ss ks all s k a = record {
    falls = (base r c is).falls;
    facts = facts r c is;
    slots_are = s ∙ slots_are;
    keys_are = k ∙ keys_are;
    instances_are = a ∙ all_live r c is live are;
    are_slots = are_slots (base_of r) (facts_of c) declared;
  }

-- a point of the case
pub record IsThere (r : Rulebase) (c : CaseView) (a : AttrId) (i : InstanceId) (d : ℕ) : Type 0 where
  pub live : IsLive (facts_of c) i
  pub own : i.entity.0 ≡ owner_of (shape_of r.model) a
  pub placed : IsPlaced (base_of r) (facts_of c) (Point a i d)

pub there_is_point : (r : Rulebase) (c : CaseView) → IsOf r c → (a : AttrId) (i : InstanceId) (d : ℕ) → is_point r c a i ≡ true → IsThere r c a i d
there_is_point r c is a i d h =
    let outer = and_parts (nat_lt a.0 (length r.model.attributes)) (has_place r c a i) h in
    let inner = and_parts (is_live c.live i) _ outer.1 in record {
      live = live_in c i inner.0;
      own = eqb-true i.entity.0 (owner_of (shape_of r.model) a) inner.1;
      placed = placed r c is a i d (ltb-true a.0 (length r.model.attributes) outer.0) outer.1;
    }
