-- The slots of a case: exactly the live ones, each once, in order.
use Rattle.std.proofs.Common.{◌≡◌, ◌≢◌, ◌⊎◌, inl, inr, ℕ, zero, suc, ◌-◌, ◌<◌, ◌≤◌, Bool, true, false, cond, ◌==◌, List, [], ◌∷◌, ◌++◌, map, filter, Contains, Option, None, Some, is_some, refl, sym, ◌∙◌, ap, subst, arith}
use Rattle.std.specs.Prelude.{find, ◌&&◌}
use Rattle.std.proofs.lemmas.Bool.{and_parts, eqb-true, eq-eqb, cases_eq, and_from}
use Rattle.std.proofs.lemmas.List.Elements.{Contains-append_left, Contains-append_right, Contains-append_cases}
use Rattle.opa_model.specs.declared.ids.AttrId.{AttrId}
use Rattle.opa_model.specs.Models.{HasAttribute}
use Rattle.opa_cells.specs.declared.instance.InstanceId.{InstanceId}
use Rattle.opa_cells.specs.Instances.{is_same, global}
use Rattle.opa_cells.proofs.Orders.{same_itself}
use Rattle.opa_case.specs.Cases.{CaseView, stored}
use Rattle.opa_case.specs.Live.{Population, is_live, live_of}
use Rattle.opa_case.specs.Shapes.{IsShape, shape_of}
use Rattle.opa_case.proofs.Distinct.{once_upto}
use Rattle.opa_case.proofs.Shaped.{shape_is}
use Rattle.opa_case.proofs.Stands.{lookup_found, in_upto}
use Rattle.opa_case.proofs.Weighing.{occurs, some_counted}
use Rattle.opa_tree.specs.declared.rulebase.Rulebase.{Rulebase}
use Rattle.opa_tree.specs.declared.rules.Rule.{Rule}
use Rattle.opa_tree.specs.Rules.{rule_of, concludes}
use Rattle.opa_tree.specs.Trees.{highest}
use Rattle.opa_tree.proofs.Members.{none_in, contains_head, contains_cases, flat_in, flat_out, highest_above}
use Rattle.opa_mean.specs.Changes.{attributes, of_rank, below_rank, ruled, slots}
use Rattle.opa_mean.specs.Given.{base_of, facts_of}
use Rattle.opa_mean.specs.Mean.{Base, Facts}
use Rattle.opa_mean.specs.Places.{is_of, owner_of}
use Rattle.opa_mean.specs.Rulebases.{IsOf}
use Rattle.opa_mean.specs.SlotLaws.{SlotsAreLive, Precedes, ComesBefore, SlotsInOrder, InstancesOnce, SlotsOnce}
use Rattle.opa_mean.specs.Slots.{is_slot}
use Rattle.opa_mean.proofs.Accepting.{all_found}
use Rattle.opa_mean.proofs.Everywhere.{in_map}
use Rattle.opa_mean.proofs.Filtered.{filter_out, filter_in, map_out, Ordered, ordered_pairs, ordered_append, ordered_weaker, ordered_filter, ordered_map, ordered_flat, all_precede}
use Rattle.opa_mean.proofs.Fitting.{live_in, in_live}

pub in_attributes : (n : ℕ) (a : AttrId) → a.0 < n → Contains (attributes n) a
in_attributes zero a lt = absurd (omega arith)
in_attributes (suc n) a lt = go (cases_eq n a.0) (λ ne. in_attributes n a (omega (arith, ne)))
  where
    go : (n ≡ a.0) ⊎ (n ≡ a.0 → ⊥) → ((n ≡ a.0 → ⊥) → Contains (attributes n) a) → Contains (attributes n ++ record { 0 = n } ∷ []) a
    go (inl e) rest = Contains-append_right (attributes n) (record { 0 = n } ∷ []) a (subst (λ (k : ℕ). Contains (record { 0 = n } ∷ []) (let x : AttrId = record { 0 = k } in x)) e (contains_head (record { 0 = n }) []))
    go (inr ne) rest = Contains-append_left (attributes n) (record { 0 = n } ∷ []) a (rest ne)

pub out_attributes : (n : ℕ) (a : AttrId) → Contains (attributes n) a → a.0 < n
out_attributes zero a h = absurd (none_in a h)
out_attributes (suc n) a h = go (Contains-append_cases (attributes n) (record { 0 = n } ∷ []) a h) (out_attributes n a)
  where
    last : Contains (record { 0 = n } ∷ []) a → a.0 < suc n
    last k = at (contains_cases (record { 0 = n }) a [] k)
      where
        at : (record { 0 = n } ≡ a) ⊎ Contains [] a → a.0 < suc n
        at (inl e) = let same : n ≡ a.0 = ap (λ (x : AttrId). x.0) e in omega (arith, same)
        at (inr k) = absurd (none_in a k)

    go : Contains (attributes n) a ⊎ Contains (record { 0 = n } ∷ []) a → (Contains (attributes n) a → a.0 < n) → a.0 < suc n
    go (inl k) rest = let lt = rest k in omega (arith, lt)
    go (inr k) rest = last k

abbrev Rises : AttrId → AttrId → Type 0
Rises x y = x.0 < y.0

attributes_rise : (n : ℕ) → Ordered Rises (attributes n)
attributes_rise zero = tt
attributes_rise (suc n) = ordered_append Rises (attributes n) (record { 0 = n } ∷ []) (attributes_rise n) (λ y h. absurd (none_in y h), tt)
    (λ x y h k. last x y (out_attributes n x h) (contains_cases (record { 0 = n }) y [] k))
  where
    last : (x y : AttrId) → x.0 < n → (record { 0 = n } ≡ y) ⊎ Contains [] y → x.0 < y.0
    last x y lt (inl e) = let same : n ≡ y.0 = ap (λ (z : AttrId). z.0) e in omega (arith, lt, same)
    last x y lt (inr k) = absurd (none_in y k)

module _ (b : Base) where
  abbrev passes : ℕ → AttrId → Bool
  passes n a = is_some (rule_of b.rules a) && (b.rank a == n)

  in_below : (n : ℕ) (a : AttrId) → a.0 < b.shape.attributes → is_some (rule_of b.rules a) ≡ true → b.rank a < n → Contains (below_rank b n) a
  in_below zero a lt has low = absurd (omega arith)
  in_below (suc n) a lt has low = go (cases_eq n (b.rank a)) (λ ne. in_below n a lt has (omega (arith, low, ne)))
    where
      go : (n ≡ b.rank a) ⊎ (n ≡ b.rank a → ⊥) → ((n ≡ b.rank a → ⊥) → Contains (below_rank b n) a) → Contains (below_rank b n ++ of_rank b n) a
      go (inl e) rest = Contains-append_right (below_rank b n) (of_rank b n) a (filter_in (passes n) (attributes b.shape.attributes) a (in_attributes b.shape.attributes a lt) (and_from (is_some (rule_of b.rules a)) (b.rank a == n) has (eq-eqb (b.rank a) n (sym e))))
      go (inr ne) rest = Contains-append_left (below_rank b n) (of_rank b n) a (rest ne)

  out_of_rank : (n : ℕ) (a : AttrId) → Contains (of_rank b n) a → (is_some (rule_of b.rules a) ≡ true) × (b.rank a ≡ n)
  out_of_rank n a h = let k = filter_out (passes n) (attributes b.shape.attributes) a h in let both = and_parts _ _ k.1 in (both.0, eqb-true (b.rank a) n both.1)

  out_below : (n : ℕ) (a : AttrId) → Contains (below_rank b n) a → (is_some (rule_of b.rules a) ≡ true) × (b.rank a < n)
  out_below zero a h = absurd (none_in a h)
  out_below (suc n) a h = go (Contains-append_cases (below_rank b n) (of_rank b n) a h) (out_below n a)
    where
      go : Contains (below_rank b n) a ⊎ Contains (of_rank b n) a → (Contains (below_rank b n) a → (is_some (rule_of b.rules a) ≡ true) × (b.rank a < n)) → (is_some (rule_of b.rules a) ≡ true) × (b.rank a < suc n)
      go (inl k) rest = let r = rest k in (r.0, let lt = r.1 in omega (arith, lt))
      go (inr k) rest = let r = out_of_rank n a k in (r.0, let at = r.1 in omega (arith, at))

  -- by rank, and then in declared order
  abbrev ByRank : AttrId → AttrId → Type 0
  ByRank x y = (b.rank x < b.rank y) ⊎ ((b.rank x ≡ b.rank y) × (x.0 < y.0))

  of_rank_rises : (n : ℕ) → Ordered ByRank (of_rank b n)
  of_rank_rises n = ordered_weaker Rises ByRank (of_rank b n) (λ x y h k lt. inr ((out_of_rank n x h).1 ∙ sym (out_of_rank n y k).1, lt)) (ordered_filter Rises (passes n) (attributes b.shape.attributes) (attributes_rise b.shape.attributes))

  below_rises : (n : ℕ) → Ordered ByRank (below_rank b n)
  below_rises zero = tt
  below_rises (suc n) = ordered_append ByRank (below_rank b n) (of_rank b n) (below_rises n) (of_rank_rises n)
      (λ x y h k. inl (let lt = (out_below n x h).1 in let at = (out_of_rank n y k).1 in omega (arith, lt, at)))

  module _ (c : Facts) where
    abbrev owned : AttrId → List InstanceId
    owned a = filter (is_of (owner_of b.shape a)) c.instances

    abbrev with_each : AttrId → List (AttrId × InstanceId)
    with_each a = map (λ i. (a, i)) (owned a)

    of_attribute : (a : AttrId) (x : AttrId × InstanceId) → Contains (with_each a) x → a ≡ x.0
    of_attribute a x h = let m = map_out (λ i. (a, i)) (owned a) x h in ap (λ (y : AttrId × InstanceId). y.0) m.1.1

    abbrev Before : AttrId × InstanceId → AttrId × InstanceId → Type 0
    Before = ComesBefore b c

    across : (x y : AttrId) (u v : AttrId × InstanceId) → ByRank x y → Contains (with_each x) u → Contains (with_each y) v → Before u v
    across x y u v h k l = go (subst (λ (z : AttrId). ByRank z v.0) (of_attribute x u k) (subst (λ (z : AttrId). ByRank x z) (of_attribute y v l) h))
      where
        go : ByRank u.0 v.0 → Before u v
        go (inl lt) = inl lt
        go (inr both) = inr (both.0, inl both.1)

    own_order : (a : AttrId) → Ordered Before (with_each a)
    own_order a = ordered_map Before (λ i. (a, i)) (owned a)
        (ordered_weaker (Precedes c.instances) (λ i j. Before (a, i) (a, j)) (owned a) (λ i j _ _ h. inr (refl, inr (refl, h))) (ordered_filter (Precedes c.instances) (is_of (owner_of b.shape a)) c.instances (all_precede c.instances)))

    slots_ordered : Ordered Before (slots b c)
    slots_ordered = ordered_flat ByRank Before with_each across own_order (ruled b) (below_rises (suc (highest (map b.rank (attributes b.shape.attributes)))))

    in_slots : (a : AttrId) (i : InstanceId) → a.0 < b.shape.attributes → is_some (rule_of b.rules a) ≡ true → Contains c.instances i → i.entity.0 ≡ owner_of b.shape a → Contains (slots b c) (a, i)
    in_slots a i lt has live own =
        let low : b.rank a ≤ highest (map b.rank (attributes b.shape.attributes)) = highest_above b.rank (attributes b.shape.attributes) a (in_attributes b.shape.attributes a lt) in
        flat_in with_each (ruled b) a (a, i) (in_below (suc (highest (map b.rank (attributes b.shape.attributes)))) a lt has (omega (arith, low)))
        (in_map (λ j. (a, j)) (owned a) i (filter_in (is_of (owner_of b.shape a)) c.instances i live (eq-eqb i.entity.0 (owner_of b.shape a) own)))

    pub out_slots : (x : AttrId × InstanceId) → Contains (slots b c) x → (is_some (rule_of b.rules x.0) ≡ true) × (Contains c.instances x.1 × (x.1.entity.0 ≡ owner_of b.shape x.0))
    out_slots x h =
        let y = flat_out with_each (ruled b) x h in
        let has = (out_below (suc (highest (map b.rank (attributes b.shape.attributes)))) y.0 y.1.0).0 in
        let z = map_out (λ i. (y.0, i)) (owned y.0) x y.1.1 in
        let kept = filter_out (is_of (owner_of b.shape y.0)) c.instances z.0 z.1.0 in (
          subst (λ (w : AttrId × InstanceId). is_some (rule_of b.rules w.0) ≡ true) z.1.1 has,
          (subst (λ (w : AttrId × InstanceId). Contains c.instances w.1) z.1.1 kept.0, subst (λ (w : AttrId × InstanceId). w.1.entity.0 ≡ owner_of b.shape w.0) z.1.1 (eqb-true z.0.entity.0 (owner_of b.shape y.0) kept.1)),
        )

found_passes : {X : Type 0} (p : X → Bool) (xs : List X) (x : X) → find p xs ≡ Some x → p x ≡ true
found_passes p [] x e = absurd (cc e)
found_passes p (y ∷ xs) x e = go (p y) refl (found_passes p xs x)
  where
    go : (t : Bool) → p y ≡ t → (find p xs ≡ Some x → p x ≡ true) → p x ≡ true
    go true q rest = let same : y ≡ x = cc (e, ap (λ b. cond b (Some y) (find p xs)) q) in ap p (sym same) ∙ q
    go false q rest = rest (sym (ap (λ b. cond b (Some y) (find p xs)) q) ∙ e)

-- an attribute with a rule is declared
pub ruled_declared : (r : Rulebase) (a : AttrId) → is_some (rule_of r.rules a) ≡ true → a.0 < (shape_of r.model).attributes
ruled_declared r a h = go (rule_of r.rules a) refl h
  where
    go : (o : Option Rule) → rule_of r.rules a ≡ o → is_some o ≡ true → a.0 < (shape_of r.model).attributes
    go None e k = absurd (cc k)
    go (Some rule) e k =
        let lt : rule.attr.0 < (shape_of r.model).attributes = all_found (λ (x : Rule). HasAttribute r.model x.attr) (concludes a) r.rules rule r.sound.attributes_declared e in
        let same : rule.attr.0 ≡ a.0 = eqb-true rule.attr.0 a.0 (found_passes (concludes a) r.rules rule e) in
        omega (arith, lt, same)

pub slots_are_live : SlotsAreLive
slots_are_live r c is a i = (forth, back)
  where
    forth : Contains (slots (base_of r) (facts_of c)) (a, i) → is_slot r c a i ≡ true
    forth h =
        let k = out_slots (base_of r) (facts_of c) (a, i) h in
        and_from (is_live c.live i && (i.entity.0 == owner_of (shape_of r.model) a)) (is_some (rule_of r.rules a))
        (and_from (is_live c.live i) (i.entity.0 == owner_of (shape_of r.model) a) (in_live c i k.1.0) (eq-eqb i.entity.0 (owner_of (shape_of r.model) a) k.1.1)) k.0

    back : is_slot r c a i ≡ true → Contains (slots (base_of r) (facts_of c)) (a, i)
    back h =
        let two = and_parts _ _ h in let one = and_parts _ _ two.0 in
        in_slots (base_of r) (facts_of c) a i (ruled_declared r a two.1) two.1 (live_in c i one.0) (eqb-true i.entity.0 (owner_of (shape_of r.model) a) one.1)

pub slots_in_order : SlotsInOrder
slots_in_order r c = ordered_pairs (ComesBefore (base_of r) (facts_of c)) (slots (base_of r) (facts_of c)) (slots_ordered (base_of r) (facts_of c))

-- an instance that is in a population occurs there
abbrev pub first : Population → List InstanceId
first xs = map (λ (p : InstanceId × InstanceId). p.0) xs

pub occurs_in : (i : InstanceId) (xs : Population) → Contains (first xs) i → 0 < occurs i xs
occurs_in i [] h = absurd (none_in i h)
occurs_in i (p ∷ xs) h = go (contains_cases p.0 i (first xs) h) (occurs_in i xs)
  where
    go : (p.0 ≡ i) ⊎ Contains (first xs) i → (Contains (first xs) i → 0 < occurs i xs) → 0 < occurs i (p ∷ xs)
    go (inl e) rest = let one : ◌≡◌ {A = ℕ} (cond (is_same i p.0) 1 0) 1 = ap (λ (b : Bool). cond b 1 0) (ap (is_same i) e ∙ same_itself i) in omega (arith, one)
    go (inr k) rest = let some = rest k in omega (arith, some)

abbrev Differ : InstanceId → InstanceId → Type 0
Differ i j = i ≢ j

abbrev Apart : AttrId × InstanceId → AttrId × InstanceId → Type 0
Apart x y = x ≢ y

firsts_differ : (xs : Population) → ((i : InstanceId) → occurs i xs ≤ 1) → Ordered Differ (first xs)
firsts_differ [] once = tt
firsts_differ (p ∷ xs) once = (
  λ j h same.
      let more : 0 < occurs p.0 xs = occurs_in p.0 xs (subst (λ (k : InstanceId). Contains (first xs) k) (sym same) h) in
      let one : ◌≡◌ {A = ℕ} (cond (is_same p.0 p.0) 1 0) 1 = ap (λ (b : Bool). cond b 1 0) (same_itself p.0) in
      let most = once p.0 in
      omega (arith, more, one, most),
  firsts_differ xs (λ i. let most = once i in omega (arith, most)),
)

pub instances_differ : (r : Rulebase) (c : CaseView) → IsOf r c → Ordered Differ (facts_of c).instances
instances_differ r c is = (λ j h same. not_global j h same, firsts_differ c.live (λ i. let most = known_once i in let same : occurs i c.live ≡ occurs i (live_of (shape_of r.model) (stored c.lists)) = ap (occurs i) is.fits.live in omega (arith, most, same)))
  where
    shape : IsShape (shape_of r.model)
    shape = shape_is r.model is.is_model

    known_once : (i : InstanceId) → occurs i (live_of (shape_of r.model) (stored c.lists)) ≤ 1
    known_once i = let some = shape.some in once_upto (shape_of r.model) shape c.lists is.fits.sound ((shape_of r.model).count - 1) (omega (arith, some)) i

    not_global : (j : InstanceId) → Contains (first c.live) j → global ≡ j → ⊥
    not_global j h same =
        let here : 0 < occurs global c.live = occurs_in global c.live (subst (λ (k : InstanceId). Contains (first c.live) k) (sym same) h) in
        let there : 0 < occurs global (live_of (shape_of r.model) (stored c.lists)) = subst (λ (l : Population). 0 < occurs global l) is.fits.live here in
        let found = lookup_found (is_same global) (live_of (shape_of r.model) (stored c.lists)) (some_counted (λ (p : InstanceId × InstanceId). is_same global p.0) (live_of (shape_of r.model) (stored c.lists)) there) in
        let pos = (in_upto (shape_of r.model) (stored c.lists) ((shape_of r.model).count - 1) global found.0 found.1).0 in
        omega (arith, pos)

pub instances_once : InstancesOnce
instances_once r c is = ordered_pairs Differ (facts_of c).instances (instances_differ r c is)

pub slots_once : SlotsOnce
slots_once r c is = ordered_pairs Apart (slots (base_of r) (facts_of c)) (ordered_weaker (ComesBefore (base_of r) (facts_of c)) Apart (slots (base_of r) (facts_of c)) (λ x y _ _ h. apart x y h) (slots_ordered (base_of r) (facts_of c)))
  where
    apart : (x y : AttrId × InstanceId) → ComesBefore (base_of r) (facts_of c) x y → x ≢ y
    apart x y (inl lt) same = let ranks : (base_of r).rank x.0 ≡ (base_of r).rank y.0 = ap (λ (z : AttrId × InstanceId). (base_of r).rank z.0) same in omega (arith, lt, ranks)
    apart x y (inr (e, inl lt)) same = let numbers : x.0.0 ≡ y.0.0 = ap (λ (z : AttrId × InstanceId). z.0.0) same in omega (arith, lt, numbers)
    apart x y (inr (e, inr (one, (i, (j, (lt, (inside, (at, there)))))))) same =
        instances_once r c is i j x.1 lt inside (at ∙ ap (λ (z : AttrId × InstanceId). z.1) same ∙ sym there)
