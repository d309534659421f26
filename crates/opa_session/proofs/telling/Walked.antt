-- The slots over the lists of live instances are the slots.
use Rattle.std.proofs.Common.{◌≡◌, Bool, true, false, cond, List, [], ◌∷◌, map, filter, flat_map, length, Contains, refl, sym, ◌∙◌, ap, subst}
use Rattle.opa_model.specs.declared.ids.AttrId.{AttrId}
use Rattle.opa_cells.specs.declared.instance.InstanceId.{InstanceId}
use Rattle.opa_case.specs.Cases.{CaseView}
use Rattle.opa_case.specs.Instances.{AreInstances}
use Rattle.opa_case.specs.Live.{members}
use Rattle.opa_case.specs.Shapes.{shape_of}
use Rattle.opa_tree.specs.declared.rulebase.Rulebase.{Rulebase}
use Rattle.opa_mean.specs.Changes.{ruled, slots}
use Rattle.opa_mean.specs.Given.{base_of, facts_of}
use Rattle.opa_mean.specs.Places.{owner_of, is_of}
use Rattle.opa_mean.specs.Rulebases.{IsOf}
use Rattle.opa_mean.proofs.SlotCounts.{owned_are_members}
use Rattle.opa_mean.proofs.SlotsAre.{slots_are_live}
use Rattle.opa_mean.proofs.Owned.{owner_within}
use Rattle.opa_session.specs.Telling.Reaching.{AreSlots}
use Rattle.opa_session.specs.Telling.Walking.{slots_over, with_listed}
use Rattle.opa_session.specs.Telling.Wanted.{AreAmong}
use Rattle.opa_session.proofs.telling.Wanting.{among_all}

pub listed_with : (r : Rulebase) (c : CaseView) → IsOf r c → (live : List (List InstanceId)) → AreInstances (length r.model.entities) c live → (a : AttrId)
    → with_listed (shape_of r.model) live a ≡ map {B = AttrId × InstanceId} (λ i. (a, i)) (filter (is_of (owner_of (shape_of r.model) a)) (facts_of c).instances)
listed_with r c is live are a = ap (λ (is : List InstanceId). map {B = AttrId × InstanceId} (λ i. (a, i)) is) (are.in_order (owner_of (shape_of r.model) a) (owner_within r.model is.is_model a) ∙ sym (owned_are_members r c is (owner_of (shape_of r.model) a)))

filter_along : {X Y : Type 0} (w : Y → Bool) (f : X → Y) (xs : List X) → map f (filter (λ x. w (f x)) xs) ≡ filter w (map f xs)
filter_along w f [] = refl
filter_along w f (x ∷ xs) = go (w (f x)) (filter_along w f xs)
  where
    go : (b : Bool) → map f (filter (λ x. w (f x)) xs) ≡ filter w (map f xs) → map f (cond b (x ∷ filter (λ x. w (f x)) xs) (filter (λ x. w (f x)) xs)) ≡ cond b (f x ∷ filter w (map f xs)) (filter w (map f xs))
    go true rec = ap (λ ys. f x ∷ ys) rec
    go false rec = rec

-- the same where some are wanted
pub listed_wanted : (r : Rulebase) (c : CaseView) → IsOf r c → (live : List (List InstanceId)) (w : InstanceId → Bool) → AreAmong (length r.model.entities) c.live w live → (a : AttrId)
    → with_listed (shape_of r.model) live a ≡ filter (λ x. w x.1) (map {B = AttrId × InstanceId} (λ i. (a, i)) (filter (is_of (owner_of (shape_of r.model) a)) (facts_of c).instances))
listed_wanted r c is live w are a =
    ap (λ (is : List InstanceId). map {B = AttrId × InstanceId} (λ i. (a, i)) is) (are.in_order (owner_of (shape_of r.model) a) (owner_within r.model is.is_model a))
    ∙ filter_along (λ (x : AttrId × InstanceId). w x.1) (λ i. (a, i)) (members (owner_of (shape_of r.model) a) c.live)
    ∙ ap (λ (is : List InstanceId). filter (λ x. w x.1) (map {B = AttrId × InstanceId} (λ i. (a, i)) is)) (sym (owned_are_members r c is (owner_of (shape_of r.model) a)))

pub slots_are : (r : Rulebase) (c : CaseView) → IsOf r c → (live : List (List InstanceId)) → AreInstances (length r.model.entities) c live → slots_over (shape_of r.model) live (ruled (base_of r)) ≡ slots (base_of r) (facts_of c)
slots_are r c is live are = ap (λ (f : AttrId → List (AttrId × InstanceId)). flat_map f (ruled (base_of r))) (λ i a. listed_with r c is live are a i)

-- the same where all instances are among those that are listed
pub slots_among : (q r : Rulebase) (c : CaseView) → q ≡ r → IsOf r c → (live : List (List InstanceId)) → AreAmong (length r.model.entities) c.live (λ i. true) live → slots_over (shape_of q.model) live (ruled (base_of q)) ≡ slots (base_of r) (facts_of c)
slots_among q r c same is live are = ap (λ (z : Rulebase). slots_over (shape_of z.model) live (ruled (base_of z))) same ∙ slots_are r c is live (among_all (length r.model.entities) c live are)

pub are_slots : (r : Rulebase) (c : CaseView) → IsOf r c → (xs : List (AttrId × InstanceId)) → xs ≡ slots (base_of r) (facts_of c) → AreSlots r c xs
are_slots r c is xs e = record { each = λ a i h. (slots_are_live r c is a i).0 (subst (λ (ys : List (AttrId × InstanceId)). Contains ys (a, i)) e h) }
