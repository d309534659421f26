-- How many dirty slots are left to be derived.
use Rattle.std.proofs.Common.{◌≡◌, ◌⊎◌, inl, inr, ℕ, zero, suc, ◌<◌, ◌≤◌, Bool, true, false, cond, not, List, [], ◌∷◌, ◌++◌, length, map, Option, None, Some, is_some, All, Contains, refl, sym, ◌∙◌, ap, subst, arith}
use Rattle.std.specs.Prelude.{filter, find, ◌&&◌, ◌==◌}
use Rattle.std.proofs.lemmas.Bool.{and_parts, eqb-true, eq-eqb, cases_lt}
use Rattle.std.proofs.lemmas.List.Elements.{Contains-append_left, Contains-append_right, All-head, All-tail}
use Rattle.opa_model.specs.declared.ids.AttrId.{AttrId}
use Rattle.opa_cells.specs.declared.instance.InstanceId.{InstanceId}
use Rattle.opa_case.specs.Cases.{CaseView, Answer}
use Rattle.opa_case.specs.Shapes.{shape_of}
use Rattle.opa_tree.specs.declared.rulebase.Rulebase.{Rulebase}
use Rattle.opa_tree.specs.declared.rules.Rule.{Rule}
use Rattle.opa_tree.specs.Rules.{rule_of, concludes}
use Rattle.opa_tree.specs.Trees.{highest}
use Rattle.opa_tree.proofs.Members.{none_in, contains_head, contains_tail, contains_cases, flat_in, highest_above}
use Rattle.opa_mean.specs.Changes.{attributes, of_rank, below_rank, ruled, slots}
use Rattle.opa_mean.specs.Given.{base_of, facts_of}
use Rattle.opa_mean.specs.Mean.{Base}
use Rattle.opa_mean.specs.Places.{is_of, owner_of}
use Rattle.opa_mean.proofs.Everywhere.{in_map}
use Rattle.opa_mean.proofs.Fitting.{live_in}
use Rattle.opa_mean.specs.Reached.Dirty.{is_reached}
use Rattle.opa_mean.specs.Reached.Settling.{Lines, Shift, IsDirty, Stages, is_left, left, reached}
use Rattle.opa_mean.specs.Slots.{is_slot}
use Rattle.opa_mean.proofs.SlotsAre.{in_attributes}
use Rattle.opa_mean.proofs.reached.Parted.{parts_of}
use Rattle.opa_mean.proofs.reached.Staging.{some_stays, some_here}

in_filter : {X : Type 0} (p : X → Bool) (xs : List X) (x : X) → Contains xs x → p x ≡ true → Contains (filter p xs) x
in_filter p [] x h e = absurd (none_in x h)
in_filter {X = X} p (y ∷ xs) x h e = go (contains_cases y x xs h) (in_filter p xs x)
  where
    put : (b : Bool) → Contains (filter p xs) x → Contains (cond b (y ∷ filter p xs) (filter p xs)) x
    put true k = contains_tail y x (filter p xs) k
    put false k = k

    here : (b : Bool) → b ≡ true → y ≡ x → Contains (cond b (y ∷ filter p xs) (filter p xs)) x
    here true _ same = subst (λ z. Contains (y ∷ filter p xs) z) same (contains_head y (filter p xs))
    here false e same = absurd (cc e)

    go : (y ≡ x) ⊎ Contains xs x → (Contains xs x → p x ≡ true → Contains (filter p xs) x) → Contains (cond (p y) (y ∷ filter p xs) (filter p xs)) x
    go (inl same) rec = here (p y) (ap p same ∙ e) same
    go (inr there) rec = put (p y) (rec there e)

module _ {X : Type 0} (p q : X → Bool) (weaker : (x : X) → q x ≡ true → p x ≡ true) where
  pub fewer : (xs : List X) → length (filter q xs) ≤ length (filter p xs)
  fewer [] = omega arith
  fewer (x ∷ xs) = go (q x) refl (p x) refl (fewer xs)
    where
      go : (b : Bool) → q x ≡ b → (c : Bool) → p x ≡ c → length (filter q xs) ≤ length (filter p xs) → length (cond (q x) (x ∷ filter q xs) (filter q xs)) ≤ length (cond (p x) (x ∷ filter p xs) (filter p xs))
      go true e true e' rec = let l = ap (λ b. length (cond b (x ∷ filter q xs) (filter q xs))) e in let m = ap (λ b. length (cond b (x ∷ filter p xs) (filter p xs))) e' in omega (arith, l, m, rec)
      go true e false e' rec = absurd (cc (weaker x e, e'))
      go false e true e' rec = let l = ap (λ b. length (cond b (x ∷ filter q xs) (filter q xs))) e in let m = ap (λ b. length (cond b (x ∷ filter p xs) (filter p xs))) e' in omega (arith, l, m, rec)
      go false e false e' rec = let l = ap (λ b. length (cond b (x ∷ filter q xs) (filter q xs))) e in let m = ap (λ b. length (cond b (x ∷ filter p xs) (filter p xs))) e' in omega (arith, l, m, rec)

  pub one_fewer : (xs : List X) (y : X) → Contains xs y → p y ≡ true → q y ≡ false → length (filter q xs) < length (filter p xs)
  one_fewer [] y h e e' = absurd (none_in y h)
  one_fewer (x ∷ xs) y h e e' = go (contains_cases x y xs h) (λ there. one_fewer xs y there e e') (q x) refl (p x) refl (fewer xs)
    where
      go : (x ≡ y) ⊎ Contains xs y → (Contains xs y → length (filter q xs) < length (filter p xs)) → (b : Bool) → q x ≡ b → (c : Bool) → p x ≡ c → length (filter q xs) ≤ length (filter p xs) → length (cond (q x) (x ∷ filter q xs) (filter q xs)) < length (cond (p x) (x ∷ filter p xs) (filter p xs))
      go (inl same) rec b f c f' few =
          let l = ap (λ b. length (cond b (x ∷ filter q xs) (filter q xs))) (ap q same ∙ e') in
          let m = ap (λ b. length (cond b (x ∷ filter p xs) (filter p xs))) (ap p same ∙ e) in omega (arith, l, m, few)
      go (inr there) rec true f false f' few = absurd (cc (weaker x f, f'))
      go (inr there) rec true f true f' few = let l = ap (λ b. length (cond b (x ∷ filter q xs) (filter q xs))) f in let m = ap (λ b. length (cond b (x ∷ filter p xs) (filter p xs))) f' in omega (arith, l, m, rec there)
      go (inr there) rec false f true f' few = let l = ap (λ b. length (cond b (x ∷ filter q xs) (filter q xs))) f in let m = ap (λ b. length (cond b (x ∷ filter p xs) (filter p xs))) f' in omega (arith, l, m, rec there)
      go (inr there) rec false f false f' few = let l = ap (λ b. length (cond b (x ∷ filter q xs) (filter q xs))) f in let m = ap (λ b. length (cond b (x ∷ filter p xs) (filter p xs))) f' in omega (arith, l, m, rec there)

same_filter : {X : Type 0} (p q : X → Bool) → ((x : X) → p x ≡ q x) → (xs : List X) → filter p xs ≡ filter q xs
same_filter p q h [] = refl
same_filter p q h (x ∷ xs) = ap (λ b. cond b (x ∷ filter p xs) (filter p xs)) (h x) ∙ ap (λ ys. cond (q x) (x ∷ ys) ys) (same_filter p q h xs)

in_below : (b : Base) (n : ℕ) (k : ℕ) (a : AttrId) → k < n → Contains (of_rank b k) a → Contains (below_rank b n) a
in_below b zero k a lt h = absurd (omega (arith, lt))
in_below b (suc n) k a lt h = go (cases_lt k n) (in_below b n k a)
  where
    go : (k < n) ⊎ (n ≤ k) → (k < n → Contains (of_rank b k) a → Contains (below_rank b n) a) → Contains (below_rank b n ++ of_rank b n) a
    go (inl more) rec = Contains-append_left (below_rank b n) (of_rank b n) a (rec more h)
    go (inr at) rec = let e : k ≡ n = omega (arith, lt, at) in Contains-append_right (below_rank b n) (of_rank b n) a (subst (λ m. Contains (of_rank b m) a) e h)

in_ruled : (b : Base) (a : AttrId) → a.0 < b.shape.attributes → is_some (rule_of b.rules a) ≡ true → Contains (ruled b) a
in_ruled b a lt some =
    let there = in_attributes b.shape.attributes a lt in
    let low = highest_above b.rank (attributes b.shape.attributes) a there in
    in_below b (suc (highest (map b.rank (attributes b.shape.attributes)))) (b.rank a) a (omega (arith, low))
    (in_filter (λ m. is_some (rule_of b.rules m) && (b.rank m == b.rank a)) (attributes b.shape.attributes) a there (ap (λ x. x && (b.rank a == b.rank a)) some ∙ eq-eqb (b.rank a) (b.rank a) refl))

found_by : {X : Type 0} (P : X → Type 0) (p : X → Bool) (xs : List X) (x : X) → All P xs → find p xs ≡ Some x → P x × (p x ≡ true)
found_by P p [] x all e = absurd (cc e)
found_by {X = X} P p (y ∷ xs) x all e = go (p y) refl (found_by P p xs x (All-tail P y xs all))
  where
    go : (b : Bool) → p y ≡ b → (find p xs ≡ Some x → P x × (p x ≡ true)) → P x × (p x ≡ true)
    go true q rest = let same : y ≡ x = cc (e, ap (λ b. cond b (Some y) (find p xs)) q) in (subst P same (All-head P y xs all), sym (ap p same) ∙ q)
    go false q rest = rest (sym (ap (λ b. cond b (Some y) (find p xs)) q) ∙ e)

declared : (r : Rulebase) (a : AttrId) → is_some (rule_of r.rules a) ≡ true → a.0 < length r.model.attributes
declared r a some = go (rule_of r.rules a) refl some
  where
    go : (o : Option Rule) → rule_of r.rules a ≡ o → is_some o ≡ true → a.0 < length r.model.attributes
    go None e some = absurd (cc some)
    go (Some rule) e some =
        let both = found_by (λ (x : Rule). x.attr.0 < length r.model.attributes) (concludes a) r.rules rule r.sound.attributes_declared e in
        let same : rule.attr.0 ≡ a.0 = eqb-true rule.attr.0 a.0 both.1 in omega (arith, both.0, same)

-- each slot is among the slots
pub in_slots : (r : Rulebase) (c : CaseView) (a : AttrId) (i : InstanceId) → is_slot r c a i ≡ true → Contains (slots (base_of r) (facts_of c)) (a, i)
in_slots r c a i slot =
    let p = parts_of r c a i slot in
    flat_in (λ (m : AttrId). map (λ (j : InstanceId). (m, j)) (filter (is_of (owner_of (shape_of r.model) m)) (facts_of c).instances)) (ruled (base_of r)) a (a, i)
    (in_ruled (base_of r) a (declared r a p.ruled) p.ruled)
    (in_map (λ (j : InstanceId). (a, j)) (filter (is_of (owner_of (shape_of r.model) a)) (facts_of c).instances) i
    (in_filter (is_of (owner_of (shape_of r.model) a)) (facts_of c).instances i (live_in c i p.live) (eq-eqb i.entity.0 (owner_of (shape_of r.model) a) p.owner)))

-- where nothing is staged, all dirty slots are left
pub all_left : (s : Shift) (staged : Lines) → ((a : AttrId) (i : InstanceId) → staged a i ≡ None) → left s staged ≡ reached s
all_left s staged none = ap length (same_filter (is_left s staged) (λ p. is_reached s.rules s.old s.new p.0 p.1) (λ p. ap (λ o. is_reached s.rules s.old s.new p.0 p.1 && not (is_some o)) (none p.0 p.1) ∙ and_true (is_reached s.rules s.old s.new p.0 p.1)) (slots (base_of s.rules) (facts_of s.new)))
  where
    and_true : (b : Bool) → (b && true) ≡ b
    and_true true = refl
    and_true false = refl

-- one dirty slot that is derived is one fewer that is left
pub one_derived : (s : Shift) (old new : Lines) (a : AttrId) (i : InstanceId) (line : Answer) → Stages old new a i line → IsDirty s a i → is_some (old a i) ≡ false → left s new < left s old
one_derived s old new a i line stages dirty none =
    one_fewer (is_left s old) (is_left s new) weaker (slots (base_of s.rules) (facts_of s.new)) (a, i) (in_slots s.rules s.new a i dirty.slot)
    (ap (λ x. x && not (is_some (old a i))) dirty.reached ∙ ap not none)
    (ap (λ x. is_reached s.rules s.old s.new a i && not x) (some_here a i line old new stages) ∙ and_false (is_reached s.rules s.old s.new a i))
  where
    and_false : (b : Bool) → (b && false) ≡ false
    and_false true = refl
    and_false false = refl

    not_true : (x y : Bool) → (x ≡ true → y ≡ true) → not y ≡ true → not x ≡ true
    not_true false y f h = refl
    not_true true y f h = absurd (cc (h, ap not (f refl)))

    both : (x y : Bool) → x ≡ true → y ≡ true → (x && y) ≡ true
    both true y e k = k
    both false y e k = absurd (cc e)

    weaker : (p : AttrId × InstanceId) → is_left s new p ≡ true → is_left s old p ≡ true
    weaker p h = let two = and_parts _ _ h in both (is_reached s.rules s.old s.new p.0 p.1) (not (is_some (old p.0 p.1))) two.0 (not_true (is_some (old p.0 p.1)) (is_some (new p.0 p.1)) (λ e. some_stays a i line old new stages p.0 p.1 e) two.1)

-- the same lines leave the same
pub left_same : (s : Shift) (old new : Lines) → ((a : AttrId) (i : InstanceId) → new a i ≡ old a i) → left s new ≡ left s old
left_same s old new same = ap length (same_filter (is_left s new) (is_left s old) (λ p. ap (λ o. is_reached s.rules s.old s.new p.0 p.1 && not (is_some o)) (same p.0 p.1)) (slots (base_of s.rules) (facts_of s.new)))
