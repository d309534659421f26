-- Each slot stands once among the slots, so that each derivation leaves exactly one dirty slot fewer.
use Rattle.std.proofs.Common.{◌≡◌, ◌⊎◌, inl, inr, ℕ, zero, suc, ◌+◌, ◌-◌, ◌<◌, ◌≤◌, Bool, true, false, cond, not, List, [], ◌∷◌, ◌++◌, length, map, Some, is_some, Contains, refl, sym, ◌∙◌, ap, subst, arith}
use Rattle.std.specs.Prelude.{filter, flat_map, ◌&&◌, ◌==◌}
use Rattle.std.proofs.lemmas.Bool.{and_parts, eqb-true}
use Rattle.std.proofs.lemmas.List.Elements.{Contains-append_cases}
use Rattle.opa_model.specs.declared.ids.AttrId.{AttrId}
use Rattle.opa_cells.specs.Instances.{is_same, global}
use Rattle.opa_cells.specs.declared.instance.InstanceId.{InstanceId}
use Rattle.opa_cells.proofs.Orders.{same_itself}
use Rattle.opa_case.specs.Cases.{CaseView, Answer, stored}
use Rattle.opa_case.specs.Live.{Population, container_of}
use Rattle.opa_case.specs.Shapes.{shape_of}
use Rattle.opa_case.proofs.Distinct.{once_upto}
use Rattle.opa_case.proofs.Shaped.{shape_is}
use Rattle.opa_case.proofs.Stands.{in_upto}
use Rattle.opa_case.proofs.Weighing.{occurs}
use Rattle.opa_tree.specs.declared.rulebase.Rulebase.{Rulebase}
use Rattle.opa_tree.specs.Rules.{rule_of}
use Rattle.opa_tree.specs.Trees.{highest}
use Rattle.opa_tree.proofs.Members.{none_in, contains_head, contains_tail, contains_cases, flat_out}
use Rattle.opa_mean.specs.Changes.{attributes, of_rank, below_rank, ruled, slots}
use Rattle.opa_mean.specs.Given.{base_of, facts_of}
use Rattle.opa_mean.specs.Mean.{Base}
use Rattle.opa_mean.specs.Places.{is_of, owner_of}
use Rattle.opa_mean.specs.Rulebases.{IsOf}
use Rattle.opa_mean.proofs.Fitting.{in_live}
use Rattle.opa_mean.specs.Reached.Dirty.{is_reached}
use Rattle.opa_mean.specs.Reached.Settling.{Lines, Shift, IsShift, IsDirty, Stages, is_left, left}
use Rattle.opa_mean.specs.Slots.{is_slot}
use Rattle.opa_mean.proofs.SlotsAre.{out_attributes}
use Rattle.opa_mean.proofs.reached.Parted.{slot_is}
use Rattle.opa_mean.proofs.reached.Counting.{in_slots}
use Rattle.opa_mean.proofs.reached.Staging.{some_here, split_some, some_stays}

module _ {X : Type 0} where
  -- no item stands twice
  abbrev pub Differ : List X → Type 0
  Differ [] = Unit {0}
  Differ (x ∷ xs) = (Contains xs x → ⊥) × Differ xs

  filter_in : (p : X → Bool) (xs : List X) (x : X) → Contains (filter p xs) x → Contains xs x × (p x ≡ true)
  filter_in p [] x h = absurd (none_in x h)
  filter_in p (y ∷ xs) x h = go (p y) refl h (filter_in p xs x)
    where
      more : Contains xs x × (p x ≡ true) → Contains (y ∷ xs) x × (p x ≡ true)
      more k = (contains_tail y x xs k.0, k.1)

      head : p y ≡ true → (y ≡ x) ⊎ Contains (filter p xs) x → (Contains (filter p xs) x → Contains xs x × (p x ≡ true)) → Contains (y ∷ xs) x × (p x ≡ true)
      head e (inl same) rec = (subst (λ z. Contains (y ∷ xs) z) same (contains_head y xs), sym (ap p same) ∙ e)
      head e (inr there) rec = more (rec there)

      go : (b : Bool) → p y ≡ b → Contains (cond (p y) (y ∷ filter p xs) (filter p xs)) x → (Contains (filter p xs) x → Contains xs x × (p x ≡ true)) → Contains (y ∷ xs) x × (p x ≡ true)
      go true e k rec = head e (contains_cases y x (filter p xs) (subst (λ b. Contains (cond b (y ∷ filter p xs) (filter p xs)) x) e k)) rec
      go false e k rec = more (rec (subst (λ b. Contains (cond b (y ∷ filter p xs) (filter p xs)) x) e k))

  differ_filter : (p : X → Bool) (xs : List X) → Differ xs → Differ (filter p xs)
  differ_filter p [] d = tt
  differ_filter p (x ∷ xs) d = go (p x) (differ_filter p xs d.1)
    where
      go : (b : Bool) → Differ (filter p xs) → Differ (cond b (x ∷ filter p xs) (filter p xs))
      go true rest = (λ h. d.0 (filter_in p xs x h).0, rest)
      go false rest = rest

  differ_append : (xs ys : List X) → Differ xs → Differ ys → ((x : X) → Contains xs x → Contains ys x → ⊥) → Differ (xs ++ ys)
  differ_append [] ys d e apart = e
  differ_append (x ∷ xs) ys d e apart = (λ h. go (Contains-append_cases xs ys x h), differ_append xs ys d.1 e (λ z there. apart z (contains_tail x z xs there)))
    where
      go : Contains xs x ⊎ Contains ys x → ⊥
      go (inl h) = d.0 h
      go (inr h) = apart x (contains_head x xs) h

  same_where : (p q : X → Bool) (xs : List X) → ((x : X) → Contains xs x → p x ≡ q x) → filter p xs ≡ filter q xs
  same_where p q [] h = refl
  same_where p q (x ∷ xs) h = ap (λ b. cond b (x ∷ filter p xs) (filter p xs)) (h x (contains_head x xs)) ∙ ap (λ ys. cond (q x) (x ∷ ys) ys) (same_where p q xs (λ z there. h z (contains_tail x z xs there)))

  -- tests that tell one item of the list apart, and agree elsewhere
  pub exactly_one : (p q : X → Bool) (y : X) → ((x : X) → (x ≡ y → ⊥) → q x ≡ p x) → p y ≡ true → q y ≡ false → (xs : List X) → Differ xs → Contains xs y → length (filter p xs) ≡ length (filter q xs) + 1
  exactly_one p q y agree e e' [] d h = absurd (none_in y h)
  exactly_one p q y agree e e' (x ∷ xs) d h = go (contains_cases x y xs h) (λ there. exactly_one p q y agree e e' xs d.1 there)
    where
      go : (x ≡ y) ⊎ Contains xs y → (Contains xs y → length (filter p xs) ≡ length (filter q xs) + 1) → length (cond (p x) (x ∷ filter p xs) (filter p xs)) ≡ length (cond (q x) (x ∷ filter q xs) (filter q xs)) + 1
      go (inl same) rec =
          let rest : filter q xs ≡ filter p xs = same_where q p xs (λ z there. agree z (λ is. d.0 (subst (λ w. Contains xs w) (is ∙ sym same) there))) in
          let l = ap (λ b. length (cond b (x ∷ filter p xs) (filter p xs))) (ap p same ∙ e) in
          let m = ap (λ b. length (cond b (x ∷ filter q xs) (filter q xs))) (ap q same ∙ e') in
          let n = ap length rest in omega (arith, l, m, n)
      go (inr there) rec = at (p x) refl
        where
          same : q x ≡ p x
          same = agree x (λ is. d.0 (subst (λ w. Contains xs w) (sym is) there))

          at : (b : Bool) → p x ≡ b → length (cond (p x) (x ∷ filter p xs) (filter p xs)) ≡ length (cond (q x) (x ∷ filter q xs) (filter q xs)) + 1
          at true f = let l = ap (λ b. length (cond b (x ∷ filter p xs) (filter p xs))) f in let m = ap (λ b. length (cond b (x ∷ filter q xs) (filter q xs))) (same ∙ f) in omega (arith, l, m, rec there)
          at false f = let l = ap (λ b. length (cond b (x ∷ filter p xs) (filter p xs))) f in let m = ap (λ b. length (cond b (x ∷ filter q xs) (filter q xs))) (same ∙ f) in omega (arith, l, m, rec there)

out_of : {X Y : Type 0} (f : X → Y) (xs : List X) (y : Y) → Contains (map f xs) y → (x : X) × (Contains xs x × (f x ≡ y))
out_of f [] y h = absurd (none_in y h)
out_of {X} {Y} f (x ∷ xs) y h = go (contains_cases (f x) y (map f xs) h) (out_of f xs y)
  where
    go : (f x ≡ y) ⊎ Contains (map f xs) y → (Contains (map f xs) y → (z : X) × (Contains xs z × (f z ≡ y))) → (z : X) × (Contains (x ∷ xs) z × (f z ≡ y))
    go (inl e) rec = (x, (contains_head x xs, e))
    go (inr there) rec = let w = rec there in (w.0, (contains_tail x w.0 xs w.1.0, w.1.1))

differ_map : {X Y : Type 0} (f : X → Y) → ((x y : X) → f x ≡ f y → x ≡ y) → (xs : List X) → Differ xs → Differ (map f xs)
differ_map f one [] d = tt
differ_map f one (x ∷ xs) d = (λ h. let w = out_of f xs (f x) h in d.0 (subst (λ z. Contains xs z) (one w.0 x w.1.1) w.1.0), differ_map f one xs d.1)

differ_flat : {X Y : Type 0} (f : X → List Y) → ((x : X) → Differ (f x)) → ((x y : X) (z : Y) → Contains (f x) z → Contains (f y) z → x ≡ y) → (xs : List X) → Differ xs → Differ (flat_map f xs)
differ_flat f each one [] d = tt
differ_flat f each one (x ∷ xs) d = differ_append (f x) (flat_map f xs) (each x) (differ_flat f each one xs d.1) (λ z here there. let w = flat_out f xs z there in d.0 (subst (λ k. Contains xs k) (one w.0 x z w.1.1 here) w.1.0))

attributes_differ : (n : ℕ) → Differ (attributes n)
attributes_differ zero = tt
attributes_differ (suc n) = differ_append (attributes n) (record { 0 = n } ∷ []) (attributes_differ n) (λ h. none_in _ h, tt) (λ a here there. go a here (contains_cases (record { 0 = n }) a [] there))
  where
    go : (a : AttrId) → Contains (attributes n) a → (record { 0 = n } ≡ a) ⊎ Contains [] a → ⊥
    go a here (inl e) = let l = out_attributes n a here in let k : n ≡ a.0 = ap (λ (x : AttrId). x.0) e in omega (arith, l, k)
    go a here (inr none) = none_in a none

at_rank : (b : Base) (n : ℕ) (a : AttrId) → Contains (of_rank b n) a → (b.rank a ≡ n) × (is_some (rule_of b.rules a) ≡ true)
at_rank b n a h = let two = and_parts _ _ (filter_in (λ a. is_some (rule_of b.rules a) && (b.rank a == n)) (attributes b.shape.attributes) a h).1 in (eqb-true (b.rank a) n two.1, two.0)

below : (b : Base) (n : ℕ) (a : AttrId) → Contains (below_rank b n) a → (b.rank a < n) × (is_some (rule_of b.rules a) ≡ true)
below b zero a h = absurd (none_in a h)
below b (suc n) a h = go (Contains-append_cases (below_rank b n) (of_rank b n) a h) (below b n a)
  where
    go : Contains (below_rank b n) a ⊎ Contains (of_rank b n) a → (Contains (below_rank b n) a → (b.rank a < n) × (is_some (rule_of b.rules a) ≡ true)) → (b.rank a < suc n) × (is_some (rule_of b.rules a) ≡ true)
    go (inl k) rec = let l = rec k in (omega (arith, l.0), l.1)
    go (inr k) rec = let l = at_rank b n a k in (omega (arith, l.0), l.1)

below_differ : (b : Base) (n : ℕ) → Differ (below_rank b n)
below_differ b zero = tt
below_differ b (suc n) =
    differ_append (below_rank b n) (of_rank b n) (below_differ b n) (differ_filter (λ a. is_some (rule_of b.rules a) && (b.rank a == n)) (attributes b.shape.attributes) (attributes_differ b.shape.attributes))
    (λ a here there. let l = (below b n a here).0 in let m = (at_rank b n a there).0 in omega (arith, l, m))

ruled_differ : (b : Base) → Differ (ruled b)
ruled_differ b = below_differ b (suc (highest (map b.rank (attributes b.shape.attributes))))

-- instances stand once
some_occurs : (i : InstanceId) (xs : Population) → Contains (map (λ (p : InstanceId × InstanceId). p.0) xs) i → 0 < occurs i xs
some_occurs i [] h = absurd (none_in i h)
some_occurs i (x ∷ xs) h = go (contains_cases x.0 i (map (λ (p : InstanceId × InstanceId). p.0) xs) h) (is_same i x.0) refl (some_occurs i xs)
  where
    go : (x.0 ≡ i) ⊎ Contains (map (λ (p : InstanceId × InstanceId). p.0) xs) i → (b : Bool) → is_same i x.0 ≡ b → (Contains (map (λ (p : InstanceId × InstanceId). p.0) xs) i → 0 < occurs i xs) → 0 < occurs i (x ∷ xs)
    go k true e rec = let one : cond (is_same i x.0) 1 0 ≡ 1 = ap {B = ℕ} (λ b. cond b 1 0) e in omega (arith, one)
    go (inl same) false e rec = absurd (cc (e, ap (is_same i) same, same_itself i))
    go (inr there) false e rec = let r = rec there in omega (arith, r)

people_differ : (xs : Population) → ((i : InstanceId) → occurs i xs ≤ 1) → Differ (map (λ (p : InstanceId × InstanceId). p.0) xs)
people_differ [] once = tt
people_differ (x ∷ xs) once = (
  λ h. let two = some_occurs x.0 xs h in let one = once x.0 in let own : cond (is_same x.0 x.0) 1 0 ≡ 1 = ap {B = ℕ} (λ b. cond b 1 0) (same_itself x.0) in omega (arith, two, one, own),
  people_differ xs (λ i. let one = once i in omega (arith, one)),
)

instances_differ : (r : Rulebase) (c : CaseView) → IsOf r c → Differ (facts_of c).instances
instances_differ r c is = (λ h. no_global (out_of (λ (p : InstanceId × InstanceId). p.0) c.live global h), people_differ c.live once)
  where
    once : (i : InstanceId) → occurs i c.live ≤ 1
    once i =
        let shape = shape_is r.model is.is_model in
        subst (λ (xs : Population). occurs i xs ≤ 1) (sym is.fits.live) (once_upto (shape_of r.model) shape c.lists is.fits.sound ((shape_of r.model).count - 1) (omega (arith, shape.some)) i)

    among : (x : InstanceId × InstanceId) (xs : Population) → Contains xs x → x.0 ≡ global → (d : InstanceId) × (container_of xs global ≡ Some d)
    among x [] h e = absurd (none_in x h)
    among x (y ∷ xs) h e = at (is_same global y.0) refl (contains_cases y x xs h) (λ there. among x xs there e)
      where
        at : (b : Bool) → is_same global y.0 ≡ b → (y ≡ x) ⊎ Contains xs x → (Contains xs x → (d : InstanceId) × (container_of xs global ≡ Some d)) → (d : InstanceId) × (container_of (y ∷ xs) global ≡ Some d)
        at true f k rec = (y.1, ap (λ b. cond b (Some y.1) (container_of xs global)) f)
        at false f (inl same) rec = absurd (cc (f, ap (λ (z : InstanceId × InstanceId). is_same global z.0) same, ap (is_same global) e, same_itself global))
        at false f (inr there) rec = let w = rec there in (w.0, ap (λ b. cond b (Some y.1) (container_of xs global)) f ∙ w.1)

    no_global : (x : InstanceId × InstanceId) × (Contains c.live x × (x.0 ≡ global)) → ⊥
    no_global w = let f = among w.0 c.live w.1.0 w.1.1 in let p = (in_upto (shape_of r.model) (stored c.lists) ((shape_of r.model).count - 1) global f.0 (ap (λ l. container_of l global) (sym is.fits.live) ∙ f.1)).0 in omega (arith, p)

-- the slots of an attribute
abbrev slots_at : Rulebase → CaseView → AttrId → List (AttrId × InstanceId)
slots_at r c a = map (λ (i : InstanceId). (a, i)) (filter (is_of (owner_of (shape_of r.model) a)) (facts_of c).instances)

pub slots_differ : (r : Rulebase) (c : CaseView) → IsOf r c → Differ (slots (base_of r) (facts_of c))
slots_differ r c is = differ_flat (slots_at r c) each one (ruled (base_of r)) (ruled_differ (base_of r))
  where
    each : (a : AttrId) → Differ (slots_at r c a)
    each a = differ_map (λ (i : InstanceId). (a, i)) (λ i j e. ap (λ (k : AttrId × InstanceId). k.1) e) (filter (is_of (owner_of (shape_of r.model) a)) (facts_of c).instances) (differ_filter (is_of (owner_of (shape_of r.model) a)) (facts_of c).instances (instances_differ r c is))

    attr_at : (a : AttrId) (z : AttrId × InstanceId) → Contains (slots_at r c a) z → a ≡ z.0
    attr_at a z h = let w = out_of (λ (i : InstanceId). (a, i)) (filter (is_of (owner_of (shape_of r.model) a)) (facts_of c).instances) z h in ap (λ (k : AttrId × InstanceId). k.0) w.1.1

    one : (a b : AttrId) (z : AttrId × InstanceId) → Contains (slots_at r c a) z → Contains (slots_at r c b) z → a ≡ b
    one a b z h k = attr_at a z h ∙ sym (attr_at b z k)

-- what stands among the slots is one
pub slots_are : (r : Rulebase) (c : CaseView) (a : AttrId) (i : InstanceId) → Contains (slots (base_of r) (facts_of c)) (a, i) → is_slot r c a i ≡ true
slots_are r c a i h =
    let w = flat_out (slots_at r c) (ruled (base_of r)) (a, i) h in
    let v = out_of (λ (j : InstanceId). (w.0, j)) (filter (is_of (owner_of (shape_of r.model) w.0)) (facts_of c).instances) (a, i) w.1.1 in
    let f = filter_in (is_of (owner_of (shape_of r.model) w.0)) (facts_of c).instances v.0 v.1.0 in
    let k = (below (base_of r) (suc (highest (map (base_of r).rank (attributes (base_of r).shape.attributes)))) w.0 w.1.0).1 in
    subst (λ (z : AttrId × InstanceId). is_slot r c z.0 z.1 ≡ true) v.1.1 (slot_is r c w.0 v.0 (in_live c v.0 f.0) (eqb-true v.0.entity.0 (owner_of (shape_of r.model) w.0) f.1) k)

-- one dirty slot that is derived is exactly one fewer that is left
pub one_left : (s : Shift) → IsShift s → (old new : Lines) (a : AttrId) (i : InstanceId) (line : Answer) → Stages old new a i line → IsDirty s a i → is_some (old a i) ≡ false → left s old ≡ left s new + 1
one_left s is old new a i line stages dirty none =
    exactly_one (is_left s old) (is_left s new) (a, i) (λ x apart. ap (λ b. is_reached s.rules s.old s.new x.0 x.1 && not b) (alike x apart))
    (ap (λ x. x && not (is_some (old a i))) dirty.reached ∙ ap not none)
    (ap (λ x. is_reached s.rules s.old s.new a i && not x) (some_here a i line old new stages) ∙ and_false (is_reached s.rules s.old s.new a i))
    (slots (base_of s.rules) (facts_of s.new)) (slots_differ s.rules s.new is.after) (in_slots s.rules s.new a i dirty.slot)
  where
    and_false : (b : Bool) → (b && false) ≡ false
    and_false true = refl
    and_false false = refl

    alike : (x : AttrId × InstanceId) → (x ≡ (a, i) → ⊥) → is_some (new x.0 x.1) ≡ is_some (old x.0 x.1)
    alike x apart = go (is_some (new x.0 x.1)) refl (is_some (old x.0 x.1)) refl
      where
        go : (b : Bool) → is_some (new x.0 x.1) ≡ b → (c : Bool) → is_some (old x.0 x.1) ≡ c → is_some (new x.0 x.1) ≡ is_some (old x.0 x.1)
        go true e true e' = e ∙ sym e'
        go false e false e' = e ∙ sym e'
        go false e true e' = absurd (cc (e, some_stays a i line old new stages x.0 x.1 e'))
        go true e false e' = by (split_some a i line old new stages x.0 x.1 e)
          where
            by : ((a ≡ x.0) × (i ≡ x.1)) ⊎ (is_some (old x.0 x.1) ≡ true) → is_some (new x.0 x.1) ≡ is_some (old x.0 x.1)
            by (inl same) = absurd (apart (λ k. (sym same.0 k, sym same.1 k)))
            by (inr k) = absurd (cc (k, e'))

-- where each dirty slot is derived, none is left
pub none_left : (s : Shift) (staged : Lines) → ((a : AttrId) (i : InstanceId) → IsDirty s a i → is_some (staged a i) ≡ true) → left s staged ≡ 0
none_left s staged all = ap length (empty (slots (base_of s.rules) (facts_of s.new)) (λ x there. off x there (is_reached s.rules s.old s.new x.0 x.1) refl))
  where
    empty : (xs : List (AttrId × InstanceId)) → ((x : AttrId × InstanceId) → Contains xs x → is_left s staged x ≡ false) → filter (is_left s staged) xs ≡ []
    empty [] h = refl
    empty (x ∷ xs) h = ap (λ b. cond b (x ∷ filter (is_left s staged) xs) (filter (is_left s staged) xs)) (h x (contains_head x xs)) ∙ empty xs (λ z there. h z (contains_tail x z xs there))

    off : (x : AttrId × InstanceId) → Contains (slots (base_of s.rules) (facts_of s.new)) x → (b : Bool) → is_reached s.rules s.old s.new x.0 x.1 ≡ b → is_left s staged x ≡ false
    off x there false e = ap (λ b. b && not (is_some (staged x.0 x.1))) e
    off x there true e = ap (λ b. b && not (is_some (staged x.0 x.1))) e ∙ ap not (all x.0 x.1 (record { slot = slots_are s.rules s.new x.0 x.1 there; reached = e }))
