-- How many slots a case has.
use Rattle.std.proofs.Common.{◌≡◌, ℕ, zero, suc, ◌+◌, ◌-◌, ◌<◌, Bool, true, false, cond, ◌==◌, List, [], ◌∷◌, ◌++◌, map, filter, flat_map, length, Contains, is_some, refl, sym, ◌∙◌, ap, subst, arith}
use Rattle.std.specs.Prelude.{◌&&◌, nat_lt}
use Rattle.std.proofs.lemmas.Bool.{eqb-true, ne_eqb, lt-ltb}
use Rattle.opa_io.proofs.Lists.{length_map}
use Rattle.opa_model.specs.declared.ids.AttrId.{AttrId}
use Rattle.opa_cells.specs.declared.instance.InstanceId.{InstanceId}
use Rattle.opa_cells.specs.Instances.{is_same, global}
use Rattle.opa_case.specs.Cases.{CaseView, stored}
use Rattle.opa_case.specs.Live.{Population, members, live_of}
use Rattle.opa_case.specs.Shapes.{shape_of}
use Rattle.opa_case.specs.Steps as step
use Rattle.opa_case.proofs.Stands.{lookup_found, in_upto}
use Rattle.opa_case.proofs.Weighing.{occurs, some_counted, weigh, weigh-append, weigh-filter}
use Rattle.opa_tree.specs.declared.rulebase.Rulebase.{Rulebase}
use Rattle.opa_tree.specs.Rules.{rule_of}
use Rattle.opa_tree.specs.Trees.{highest}
use Rattle.opa_tree.proofs.Members.{contains_head, contains_tail, highest_above}
use Rattle.opa_mean.specs.Changes.{attributes, of_rank, below_rank, ruled}
use Rattle.opa_mean.specs.Given.{base_of, facts_of}
use Rattle.opa_mean.specs.Mean.{Base}
use Rattle.opa_mean.specs.Places.{is_of, owner_of}
use Rattle.opa_mean.specs.Rulebases.{IsOf}
use Rattle.opa_mean.specs.SlotLaws.{OwnedAreMembers, SlotsCounted}
use Rattle.opa_mean.proofs.Filtered.{filter_none}
use Rattle.opa_mean.proofs.SlotsAre.{first, occurs_in, out_attributes}

-- a contained instance isn't of the global entity
pub contained_below : (r : Rulebase) (c : CaseView) → IsOf r c → (i : InstanceId) → Contains (first c.live) i → 0 < i.entity.0
contained_below r c is i h =
    let there : 0 < occurs i (live_of (shape_of r.model) (stored c.lists)) = subst (λ (l : Population). 0 < occurs i l) is.fits.live (occurs_in i c.live h) in
    let found = lookup_found (is_same i) (live_of (shape_of r.model) (stored c.lists)) (some_counted (λ (p : InstanceId × InstanceId). is_same i p.0) (live_of (shape_of r.model) (stored c.lists)) there) in
    (in_upto (shape_of r.model) (stored c.lists) ((shape_of r.model).count - 1) i found.0 found.1).0

firsts_of : (e : ℕ) (xs : Population) → filter (is_of e) (first xs) ≡ map (λ (p : InstanceId × InstanceId). p.0) (filter (λ p. p.0.entity.0 == e) xs)
firsts_of e [] = refl
firsts_of e (x ∷ xs) = go (x.0.entity.0 == e) (firsts_of e xs)
  where
    go : (b : Bool) → filter (is_of e) (first xs) ≡ map (λ (p : InstanceId × InstanceId). p.0) (filter (λ p. p.0.entity.0 == e) xs)
        → cond b (x.0 ∷ filter (is_of e) (first xs)) (filter (is_of e) (first xs)) ≡ map (λ (p : InstanceId × InstanceId). p.0) (cond b (x ∷ filter (λ p. p.0.entity.0 == e) xs) (filter (λ p. p.0.entity.0 == e) xs))
    go true h = ap (λ is. x.0 ∷ is) h
    go false h = h

pub owned_are_members : OwnedAreMembers
owned_are_members r c is e = go (e == 0) refl
  where
    none_global : (e ≡ 0) → (i : InstanceId) → Contains (first c.live) i → is_of e i ≡ false
    none_global at i h = let pos = contained_below r c is i h in ne_eqb i.entity.0 e (λ same. omega (arith, same, at, pos))

    go : (b : Bool) → (e == 0) ≡ b → filter (is_of e) (global ∷ first c.live) ≡ cond b (global ∷ []) (map (λ (p : InstanceId × InstanceId). p.0) (filter (λ p. p.0.entity.0 == e) c.live))
    go true q =
        let at = eqb-true e 0 q in
        ap (λ (n : ℕ). cond (0 == n) (global ∷ filter (is_of e) (first c.live)) (filter (is_of e) (first c.live))) at
        ∙ ap (λ is. global ∷ is) (filter_none (is_of e) (first c.live) (none_global at))
    go false q = ap (λ (b : Bool). cond b (global ∷ filter (is_of e) (first c.live)) (filter (is_of e) (first c.live))) (ne_eqb 0 e (λ same. other same)) ∙ firsts_of e c.live
      where
        other : 0 ≡ e → ⊥
        other same = cc (q, ap (λ (n : ℕ). n == 0) (sym same))

-- Sums over lists that are filtered and joined.

length-flat : {X Y : Type 0} (f : X → List Y) (xs : List X) → length (flat_map f xs) ≡ weigh (λ x. length (f x)) xs
length-flat f [] = refl
length-flat f (x ∷ xs) = more (f x) (flat_map f xs) ∙ ap (λ n. length (f x) + n) (length-flat f xs)
  where
    more : {Y : Type 0} (ys zs : List Y) → length (ys ++ zs) ≡ length ys + length zs
    more [] zs = omega arith
    more (y ∷ ys) zs = let rest = more ys zs in omega (arith, rest)

weigh-sum : {X : Type 0} (v w u : X → ℕ) → ((x : X) → v x + w x ≡ u x) → (xs : List X) → weigh v xs + weigh w xs ≡ weigh u xs
weigh-sum v w u h [] = refl
weigh-sum v w u h (x ∷ xs) = let rest = weigh-sum v w u h xs in let here = h x in omega (arith, rest, here)

weigh_there : {X : Type 0} (v w : X → ℕ) (xs : List X) → ((x : X) → Contains xs x → v x ≡ w x) → weigh v xs ≡ weigh w xs
weigh_there v w [] h = refl
weigh_there v w (x ∷ xs) h = let here = h x (contains_head x xs) in let rest = weigh_there v w xs (λ y k. h y (contains_tail x y xs k)) in omega (arith, here, rest)

nothing_there : {X : Type 0} (w : X → ℕ) → ((x : X) → w x ≡ 0) → (xs : List X) → 0 ≡ weigh w xs
nothing_there w h [] = refl
nothing_there w h (x ∷ xs) = let here = h x in let rest = nothing_there w h xs in omega (arith, here, rest)

module _ (b : Base) (w : AttrId → ℕ) where
  -- the weight of an attribute with a rule of a rank below n
  abbrev low : ℕ → AttrId → ℕ
  low n a = cond (is_some (rule_of b.rules a)) (cond (nat_lt (b.rank a) n) (w a) 0) 0

  step_up : (n m v : ℕ) (t : Bool) → cond t (cond (nat_lt m n) v 0) 0 + cond (t && (m == n)) v 0 ≡ cond t (cond (nat_lt m (suc n)) v 0) 0
  step_up n m v false = refl
  step_up n m v true = go (nat_lt m n) refl (m == n) refl
    where
      go : (x : Bool) → nat_lt m n ≡ x → (y : Bool) → (m == n) ≡ y → cond x v 0 + cond y v 0 ≡ cond (nat_lt m (suc n)) v 0
      go x e y f = grind (arith, e, f)

  weigh_below : (n : ℕ) → weigh w (below_rank b n) ≡ weigh (low n) (attributes b.shape.attributes)
  weigh_below zero = nothing_there (low 0) (λ a. none (is_some (rule_of b.rules a)) (b.rank a) (w a)) (attributes b.shape.attributes)
    where
      below_none : (m v : ℕ) (x : Bool) → nat_lt m 0 ≡ x → cond x v 0 ≡ 0
      below_none m v x e = grind (arith, e)

      none : (t : Bool) (m v : ℕ) → cond t (cond (nat_lt m 0) v 0) 0 ≡ 0
      none true m v = below_none m v (nat_lt m 0) refl
      none false m v = refl
  weigh_below (suc n) =
      weigh-append w (below_rank b n) (of_rank b n)
      ∙ ap (λ k. k + weigh w (of_rank b n)) (weigh_below n)
      ∙ ap (λ k. weigh (low n) (attributes b.shape.attributes) + k) (weigh-filter w (λ a. is_some (rule_of b.rules a) && (b.rank a == n)) (attributes b.shape.attributes))
      ∙ weigh-sum (low n) (λ a. cond (is_some (rule_of b.rules a) && (b.rank a == n)) (w a) 0) (low (suc n)) (λ a. step_up n (b.rank a) (w a) (is_some (rule_of b.rules a))) (attributes b.shape.attributes)

  -- the weights of all attributes that have a rule
  weigh_ruled : weigh w (ruled b) ≡ weigh (λ a. cond (is_some (rule_of b.rules a)) (w a) 0) (attributes b.shape.attributes)
  weigh_ruled = weigh_below (suc (highest (map b.rank (attributes b.shape.attributes))))
      ∙ weigh_there (low (suc (highest (map b.rank (attributes b.shape.attributes))))) (λ a. cond (is_some (rule_of b.rules a)) (w a) 0) (attributes b.shape.attributes)
      (λ a h. let most = highest_above b.rank (attributes b.shape.attributes) a h in
      ap (λ (t : Bool). cond (is_some (rule_of b.rules a)) (cond t (w a) 0) 0) (lt-ltb (b.rank a) (suc (highest (map b.rank (attributes b.shape.attributes)))) (omega (arith, most))))

-- the slots that a case counts, attribute by attribute
counted_upto : (r : Rulebase) (c : CaseView) (n : ℕ) → weigh (step.slots_of (shape_of r.model) r.ruled c.live) (attributes n) ≡ step.slots_upto (shape_of r.model) r.ruled c.live n
unfolding step.slots_upto
counted_upto r c zero = refl
counted_upto r c (suc n) =
    let before = counted_upto r c n in
    let joined = weigh-append (step.slots_of (shape_of r.model) r.ruled c.live) (attributes n) (record { 0 = n } ∷ []) in
    omega (arith, before, joined)

abbrev with_each : Rulebase → CaseView → AttrId → List (AttrId × InstanceId)
with_each r c a = map (λ i. (a, i)) (filter (is_of (owner_of (shape_of r.model) a)) (facts_of c).instances)

pub slots_counted : SlotsCounted
slots_counted r c is =
    length-flat (with_each r c) (ruled (base_of r))
    ∙ weigh_ruled (base_of r) (λ a. length (with_each r c a))
    ∙ weigh_there (λ a. cond (is_some (rule_of r.rules a)) (length (with_each r c a)) 0) (step.slots_of (shape_of r.model) r.ruled c.live) (attributes (shape_of r.model).attributes) (λ a h. each a (out_attributes (shape_of r.model).attributes a h))
    ∙ counted_upto r c (shape_of r.model).attributes
  where
    each : (a : AttrId) → a.0 < (shape_of r.model).attributes → cond (is_some (rule_of r.rules a)) (length (with_each r c a)) 0 ≡ step.slots_of (shape_of r.model) r.ruled c.live a
    each a lt =
        ap (λ (n : ℕ). cond (is_some (rule_of r.rules a)) n 0) (length_map (λ (i : InstanceId). (a, i)) (filter (is_of (owner_of (shape_of r.model) a)) (facts_of c).instances) ∙ ap length (owned_are_members r c is (owner_of (shape_of r.model) a)))
        ∙ ap (λ (t : Bool). cond t (length (members (owner_of (shape_of r.model) a) c.live)) 0) (sym (r.ruled_by.by_rules a lt))
