-- What a map has at live instances, as entries: by number, and then in instance order.
use Rattle.std.proofs.Common.{◌≡◌, ◌≢◌, ◌<◌, ℕ, zero, suc, Bool, true, false, cond, List, [], ◌∷◌, ◌++◌, map, arith, refl, sym, ap, subst, ◌∙◌, ◌⊎◌, inl, inr}
use Rattle.std.specs.Prelude.{Option, None, Some, flat_map, ◌||◌, ◌&&◌, not}
use Rattle.std.specs.List.{list_any, AllByRecursion}
use Rattle.std.specs.Option.{option_map, option_and_then}
use Rattle.std.specs.FinMap.{FinMap, get, insert, empty, same_map, get-insert, get-empty}
use Rattle.std.specs.Ordering.{eq_by_cmp, nat_cmp}
use Rattle.std.specs.Cmp.{eq_by_cmp_equiv}
use Rattle.std.specs.Cmp.Lexicographic.{slice_cmp}
use Rattle.std.proofs.lemmas.Bool.{and_parts, false_from_ne_true, or_right, or_left, or_from}
use Rattle.std.proofs.lemmas.List.Folds.{list_any-append}
use Rattle.std.proofs.lemmas.Map.Views.{tells_apart}
use mathlib.Core.Bool.{true≢false}
use Rattle.serde_json.specs.Data.{Data}
use Rattle.opa_io.proofs.Bools.{never_both}
use Rattle.opa_io.proofs.Lists.{each_weaker, map_append, each_append as all_append}
use Rattle.opa_cells.specs.declared.instance.InstanceId.{InstanceId}
use Rattle.opa_cells.specs.Instances.{is_same, is_text}
use Rattle.opa_cells.specs.Keys.{cell_cmp}
use Rattle.opa_cells.proofs.Orders.{cell_exact, cell_total, same_is, same_itself}
use Rattle.opa_cells.proofs.Rowed.{parts}
use Rattle.opa_case.specs.Live.{Population, members}
use Rattle.opa_case.proofs.Stands.{text_is}
use Rattle.opa_case.proofs.Among.{members_of}
use Rattle.opa_saved.specs.declared.entries.Point.{Point}
use Rattle.opa_saved.specs.Forms.{each, point_at, is_point, differ}
use Rattle.opa_saved.specs.Saved.{entry_of}
use Rattle.opa_saved.proofs.Distinct.{among, Distinct, distinct_members}

-- ---- lists

unfoldable pub Has : {E : Type 0} → E → List E → Type 0
Has e [] = ⊥
Has e (x ∷ xs) = (x ≡ e) ⊎ Has e xs

has_left : {E : Type 0} (e : E) (xs ys : List E) → Has e xs → Has e (xs ++ ys)
unfolding Has
has_left e [] ys h = absurd h
has_left e (x ∷ xs) ys (inl h) = inl h
has_left e (x ∷ xs) ys (inr h) = inr (has_left e xs ys h)

has_right : {E : Type 0} (e : E) (xs ys : List E) → Has e ys → Has e (xs ++ ys)
unfolding Has
has_right e [] ys h = h
has_right e (x ∷ xs) ys h = inr (has_right e xs ys h)

nothing_of : {B : Type 0} (b : List B) → Some [] ≡ Some b → [] ≡ b
nothing_of b e = cc e

each_append : {A B : Type 0} (f : A → Option B) (xs ys : List A) (ws zs : List B) → each f xs ≡ Some ws → each f ys ≡ Some zs → each f (xs ++ ys) ≡ Some (ws ++ zs)
each_append f [] ys ws zs h g = g ∙ ap (λ us. Some (us ++ zs)) (nothing_of ws h)
each_append {B = B} f (x ∷ xs) ys ws zs h g = go (f x) refl (each f xs) refl h (λ us k. each_append f xs ys us zs k g)
  where
    some_of : (a b : List B) → Some a ≡ Some b → a ≡ b
    some_of a b e = cc e

    go : (o : Option B) → f x ≡ o → (p : Option (List B)) → each f xs ≡ p → option_and_then (λ y. option_map (λ us. y ∷ us) p) o ≡ Some ws → ((us : List B) → each f xs ≡ Some us → each f (xs ++ ys) ≡ Some (us ++ zs)) → option_and_then (λ y. option_map (λ us. y ∷ us) (each f (xs ++ ys))) (f x) ≡ Some (ws ++ zs)
    go None e p q k rest = absurd (cc k)
    go (Some y) e None q k rest = absurd (cc k)
    go (Some y) e (Some us) q k rest =
        ap (option_and_then (λ z. option_map (λ vs. z ∷ vs) (each f (xs ++ ys)))) e ∙ ap (option_map (λ vs. y ∷ vs)) (rest us q) ∙ ap (λ vs. Some (vs ++ zs)) (some_of (y ∷ us) ws k)

-- ---- points

point_exact : (p q : Point) → is_point p q ≡ true → p ≡ q
point_exact p q h =
    let both = and_parts (is_text p.phrase q.phrase) (is_text p.name q.name) (sym (parts (slice_cmp nat_cmp p.phrase q.phrase) (slice_cmp nat_cmp p.name q.name)) ∙ h) in
    ap (λ t. point_at t p.name) (text_is p.phrase q.phrase both.0) ∙ ap (point_at q.phrase) (text_is p.name q.name both.1)

none_is : (p : Point) (qs : List Point) → AllByRecursion (λ q. p ≢ q) qs → list_any (is_point p) qs ≡ false
none_is p [] h = refl
none_is p (q ∷ qs) h = or_from (is_point p q) (list_any (is_point p) qs) (false_from_ne_true (is_point p q) (λ t. h.0 (point_exact p q t))) (none_is p qs h.1)

differ_cons : (p : Point) (qs : List Point) → AllByRecursion (λ q. p ≢ q) qs → differ qs ≡ true → differ (p ∷ qs) ≡ true
differ_cons p qs h d = ap (λ b. not b && differ qs) (none_is p qs h) ∙ d

differ_append : (ps qs : List Point) → differ ps ≡ true → differ qs ≡ true → AllByRecursion (λ p. AllByRecursion (λ q. p ≢ q) qs) ps → differ (ps ++ qs) ≡ true
differ_append [] qs h g a = g
differ_append (p ∷ ps) qs h g a =
    let d = and_parts (not (list_any (is_point p) ps)) (differ ps) h in
    ap (λ b. not b && differ (ps ++ qs)) (list_any-append (is_point p) ps qs ∙ or_from (list_any (is_point p) ps) (list_any (is_point p) qs) (turned (list_any (is_point p) ps) d.0) (none_is p qs a.0)) ∙ differ_append ps qs d.1 g a.1
  where
    turned : (b : Bool) → not b ≡ true → b ≡ false
    turned true e = absurd (true≢false (sym e))
    turned false e = refl

-- ---- entries of a map

module _ {V E : Type 0} (make : Point → V → E) (phrase : ℕ → List ℕ) (owner : ℕ → ℕ) (all : FinMap cell_cmp V) (live : Population) where
  abbrev pub made : ℕ → InstanceId → Option V → List E
  made n i None = []
  made n i (Some v) = make (point_at (phrase n) i.name) v ∷ []

  abbrev pub made_of : ℕ → List InstanceId → List E
  made_of n is = flat_map (λ i. made n i (get all (n, i))) is

  abbrev pub at_number : ℕ → List E
  at_number n = made_of n (members (owner n) live)

  abbrev pub upto : ℕ → List E
  upto zero = []
  upto (suc n) = upto n ++ at_number n

  -- ---- what holds of each

  module _ (P : E → Type 0) where
    all_made : (n : ℕ) (is : List InstanceId) → ((i : InstanceId) (v : V) → among i is ≡ true → get all (n, i) ≡ Some v → P (make (point_at (phrase n) i.name) v)) → AllByRecursion P (made_of n is)
    all_made n [] h = tt
    all_made n (i ∷ is) h =
        all_append P (made n i (get all (n, i))) (made_of n is) (one (get all (n, i)) refl)
        (all_made n is (λ j v m g. h j v (or_right (is_same j i) _ m) g))
      where
        one : (o : Option V) → get all (n, i) ≡ o → AllByRecursion P (made n i o)
        one None e = tt
        one (Some v) e = (h i v (or_left (is_same i i) _ (same_itself i)) e, tt)

    pub all_upto : (k : ℕ) → ((n : ℕ) (i : InstanceId) (v : V) → n < k → among i (members (owner n) live) ≡ true → get all (n, i) ≡ Some v → P (make (point_at (phrase n) i.name) v)) → AllByRecursion P (upto k)
    all_upto zero h = tt
    all_upto (suc k) h = all_append P (upto k) (at_number k) (all_upto k (λ n i v lt m g. h n i v (omega (arith, lt)) m g)) (all_made k (members (owner k) live) (λ i v m g. h k i v (omega arith) m g))

  -- ---- each is there

  has_made : (n : ℕ) (i : InstanceId) (v : V) (is : List InstanceId) → among i is ≡ true → get all (n, i) ≡ Some v → Has (make (point_at (phrase n) i.name) v) (made_of n is)
  unfolding Has
  has_made n i v [] m g = absurd (true≢false (sym m))
  has_made n i v (j ∷ js) m g = go (is_same i j) refl m (λ k. has_made n i v js k g)
    where
      here : (o : Option V) → o ≡ Some v → Has (make (point_at (phrase n) i.name) v) (made n i o)
      here None e = absurd (cc e)
      here (Some w) e = inl (ap (make (point_at (phrase n) i.name)) (cc e))

      go : (b : Bool) → is_same i j ≡ b → (b || among i js) ≡ true → (among i js ≡ true → Has (make (point_at (phrase n) i.name) v) (made_of n js)) → Has (make (point_at (phrase n) i.name) v) (made n j (get all (n, j)) ++ made_of n js)
      go true e k rest = has_left _ (made n j (get all (n, j))) (made_of n js) (subst (λ x. Has (make (point_at (phrase n) i.name) v) (made n x (get all (n, x)))) (same_is i j e) (here (get all (n, i)) g))
      go false e k rest = has_right _ (made n j (get all (n, j))) (made_of n js) (rest k)

  pub has_upto : (k n : ℕ) (i : InstanceId) (v : V) → n < k → among i (members (owner n) live) ≡ true → get all (n, i) ≡ Some v → Has (make (point_at (phrase n) i.name) v) (upto k)
  has_upto zero n i v lt m g = absurd (omega (arith, lt))
  has_upto (suc k) n i v lt m g = go (less n k lt) (λ l. has_upto k n i v l m g)
    where
      less : (a b : ℕ) → a < suc b → (a < b) ⊎ (a ≡ b)
      less a b l = grind arith

      go : (n < k) ⊎ (n ≡ k) → (n < k → Has (make (point_at (phrase n) i.name) v) (upto k)) → Has (make (point_at (phrase n) i.name) v) (upto k ++ at_number k)
      go (inl l) rest = has_left _ (upto k) (at_number k) (rest l)
      go (inr e) rest = has_right _ (upto k) (at_number k) (subst (λ x. Has (make (point_at (phrase n) i.name) v) (at_number x)) e (has_made n i v (members (owner n) live) m g))

  -- ---- their points differ

  module _ (point : E → Point) (pointed : (p : Point) (v : V) → point (make p v) ≡ p) where
    -- the points of these instances
    IsOf : ℕ → List InstanceId → E → Type 0
    IsOf n is e = (i : InstanceId) × (among i is ≡ true) × (point e ≡ point_at (phrase n) i.name)

    of_made : (n : ℕ) (is : List InstanceId) → AllByRecursion (IsOf n is) (made_of n is)
    unfolding IsOf
    of_made n is = all_made (IsOf n is) n is (λ i v m g. (i, m, pointed (point_at (phrase n) i.name) v))

    map_all : (P : Point → Type 0) (es : List E) → AllByRecursion (λ e. P (point e)) es → AllByRecursion P (map point es)
    map_all P [] h = tt
    map_all P (e ∷ es) h = (h.0, map_all P es h.1)

    differ_made : (n : ℕ) (is : List InstanceId) → Distinct is → AllByRecursion (λ i. i.entity.0 ≡ owner n) is → differ (map point (made_of n is)) ≡ true
    unfolding IsOf
    differ_made n [] d o = refl
    differ_made n (i ∷ is) d o = go (get all (n, i)) (differ_made n is d.1 o.1)
      where
        same_owner : (js : List InstanceId) → AllByRecursion (λ j. j.entity.0 ≡ owner n) js → (j : InstanceId) → among j js ≡ true → j.entity.0 ≡ owner n
        same_owner [] a j m = absurd (true≢false (sym m))
        same_owner (k ∷ ks) a j m = elim (is_same j k) as (λ b. is_same j k ≡ b → (b || among j ks) ≡ true → j.entity.0 ≡ owner n) [
          | true ↦ λ e _. ap (λ (x : InstanceId). x.entity.0) (same_is j k e) ∙ a.0
          | false ↦ λ _ g. same_owner ks a.1 j g
        ] refl m

        apart : (e : E) → IsOf n is e → point_at (phrase n) i.name ≢ point e
        apart e x h =
            let j = x.0 in
            let names : i.name ≡ j.name = ap (λ (p : Point). p.name) (h ∙ x.2) in
            let owners : i.entity.0 ≡ j.entity.0 = o.0 ∙ sym (same_owner is o.1 j x.1) in
            let one : i ≡ j = λ k. record { entity = record { 0 = owners k }; name = names k } in
            never_both (among i is) (subst (λ y. among y is ≡ true) (sym one) x.1) d.0

        go : (p : Option V) → differ (map point (made_of n is)) ≡ true → differ (map point (made n i p ++ made_of n is)) ≡ true
        go None rest = rest
        go (Some v) rest =
            ap (λ q. differ (q ∷ map point (made_of n is))) (pointed (point_at (phrase n) i.name) v)
            ∙ differ_cons (point_at (phrase n) i.name) (map point (made_of n is)) (map_all (λ q. point_at (phrase n) i.name ≢ q) (made_of n is) (each_weaker (IsOf n is) _ apart (made_of n is) (of_made n is))) rest

    -- the phrase of an earlier number
    IsEarlier : ℕ → E → Type 0
    IsEarlier k e = (n : ℕ) × (n < k) × ((point e).phrase ≡ phrase n)

    earlier : (k : ℕ) → AllByRecursion (IsEarlier k) (upto k)
    unfolding IsEarlier
    earlier k = all_upto (IsEarlier k) k (λ n i v lt m g. (n, lt, ap (λ (p : Point). p.phrase) (pointed (point_at (phrase n) i.name) v)))

    pub differ_upto : (k : ℕ) → ((n j : ℕ) → n < j → j < k → phrase n ≢ phrase j) → Distinct (map (λ (p : InstanceId × InstanceId). p.0) live) → differ (map point (upto k)) ≡ true
    unfolding IsOf IsEarlier
    differ_upto zero apart d = refl
    differ_upto (suc k) apart d =
        ap differ (map_append point (upto k) (at_number k))
        ∙ differ_append (map point (upto k)) (map point (at_number k)) (differ_upto k (λ n j lt l. apart n j lt (omega (arith, l))) d)
        (differ_made k (members (owner k) live) (distinct_members (owner k) live d) (members_of (owner k) live))
        (map_all (λ p. AllByRecursion (λ q. p ≢ q) (map point (at_number k))) (upto k) (each_weaker (IsEarlier k) _ others (upto k) (earlier k)))
      where
        others : (e : E) → IsEarlier k e → AllByRecursion (λ q. point e ≢ q) (map point (at_number k))
        others e x = map_all (λ q. point e ≢ q) (at_number k) (each_weaker (IsOf k (members (owner k) live)) _ (λ f y h. apart x.0 k x.1 (omega arith) (sym x.2 ∙ ap (λ (p : Point). p.phrase) (h ∙ y.2))) (at_number k) (of_made k (members (owner k) live)))

  -- ---- what is written is read as these

  module _ (data_of : ℕ → InstanceId → V → Data) (read : Data → Option E) where
    abbrev pub written_of : ℕ → List InstanceId → List Data
    written_of n is = flat_map (λ i. entry_of (data_of n i) (get all (n, i))) is

    abbrev pub written_upto : ℕ → List Data
    written_upto zero = []
    written_upto (suc n) = written_upto n ++ written_of n (members (owner n) live)

    each_made : (n : ℕ) (is : List InstanceId) → ((i : InstanceId) (v : V) → among i is ≡ true → get all (n, i) ≡ Some v → read (data_of n i v) ≡ Some (make (point_at (phrase n) i.name) v)) → each read (written_of n is) ≡ Some (made_of n is)
    each_made n [] h = refl
    each_made n (i ∷ is) h =
        each_append read (entry_of (data_of n i) (get all (n, i))) (written_of n is) (made n i (get all (n, i))) (made_of n is) (one (get all (n, i)) refl)
        (each_made n is (λ j v m g. h j v (or_right (is_same j i) _ m) g))
      where
        one : (o : Option V) → get all (n, i) ≡ o → each read (entry_of (data_of n i) o) ≡ Some (made n i o)
        one None e = refl
        one (Some v) e = ap (option_and_then (λ y. option_map (λ ys. y ∷ ys) (Some []))) (h i v (or_left (is_same i i) _ (same_itself i)) e)

    pub each_upto : (k : ℕ) → ((n : ℕ) (i : InstanceId) (v : V) → n < k → among i (members (owner n) live) ≡ true → get all (n, i) ≡ Some v → read (data_of n i v) ≡ Some (make (point_at (phrase n) i.name) v)) → each read (written_upto k) ≡ Some (upto k)
    each_upto zero h = refl
    each_upto (suc k) h = each_append read (written_upto k) (written_of k (members (owner k) live)) (upto k) (at_number k) (each_upto k (λ n i v lt m g. h n i v (omega (arith, lt)) m g)) (each_made k (members (owner k) live) (λ i v m g. h k i v (omega arith) m g))

  -- ---- put into a map they make it

  module _ (put : FinMap cell_cmp V → E → FinMap cell_cmp V) where
    abbrev pub puts : FinMap cell_cmp V → List E → FinMap cell_cmp V
    puts before [] = before
    puts before (e ∷ es) = puts (put before e) es

    -- the entry puts in what the map has at a key
    pub record Puts (e : E) : Type 0 where
      pub number : ℕ
      pub inst : InstanceId
      pub value : V
      pub known : get all (number, inst) ≡ Some value
      pub is : (before : FinMap cell_cmp V) → put before e ≡ insert before (number, inst) value

    abbrev IsSome : FinMap cell_cmp V → Type 0
    IsSome before = (k : ℕ × InstanceId) (v : V) → get before k ≡ Some v → get all k ≡ Some v

    at_key : (before : FinMap cell_cmp V) (e : E) (p : Puts e) (k : ℕ × InstanceId) → get (put before e) k ≡ cond (eq_by_cmp cell_cmp k (p.number, p.inst)) (Some p.value) (get before k)
    at_key before e p k = ap (λ m. get m k) (p.is before) ∙ get-insert cell_total before (p.number, p.inst) p.value k

    some_put : (before : FinMap cell_cmp V) (e : E) → Puts e → IsSome before → IsSome (put before e)
    some_put before e p h k v g = go (eq_by_cmp cell_cmp k (p.number, p.inst)) refl (sym (at_key before e p k) ∙ g)
      where
        go : (b : Bool) → eq_by_cmp cell_cmp k (p.number, p.inst) ≡ b → cond b (Some p.value) (get before k) ≡ Some v → get all k ≡ Some v
        go true t f = ap (get all) (tells_apart cell_exact k (p.number, p.inst) t) ∙ p.known ∙ f
        go false t f = h k v f

    agrees_put : (before : FinMap cell_cmp V) (e : E) → Puts e → (k : ℕ × InstanceId) → get before k ≡ get all k → get (put before e) k ≡ get all k
    agrees_put before e p k h = at_key before e p k ∙ go (eq_by_cmp cell_cmp k (p.number, p.inst)) refl
      where
        go : (b : Bool) → eq_by_cmp cell_cmp k (p.number, p.inst) ≡ b → cond b (Some p.value) (get before k) ≡ get all k
        go true t = sym p.known ∙ ap (get all) (sym (tells_apart cell_exact k (p.number, p.inst) t))
        go false t = h

    some_puts : (before : FinMap cell_cmp V) (es : List E) → AllByRecursion Puts es → IsSome before → IsSome (puts before es)
    some_puts before [] p h = h
    some_puts before (e ∷ es) p h = some_puts (put before e) es p.1 (some_put before e p.0 h)

    agrees_puts : (before : FinMap cell_cmp V) (es : List E) → AllByRecursion Puts es → (k : ℕ × InstanceId) → get before k ≡ get all k → get (puts before es) k ≡ get all k
    agrees_puts before [] p k h = h
    agrees_puts before (e ∷ es) p k h = agrees_puts (put before e) es p.1 k (agrees_put before e p.0 k h)

    covered : (before : FinMap cell_cmp V) (es : List E) → AllByRecursion Puts es → (e : E) (n : ℕ) (i : InstanceId) (v : V) → Has e es → get all (n, i) ≡ Some v → ((b : FinMap cell_cmp V) → put b e ≡ insert b (n, i) v) → get (puts before es) (n, i) ≡ get all (n, i)
    unfolding Has
    covered before [] p e n i v h known is = absurd h
    covered before (x ∷ xs) p e n i v (inl h) known is = agrees_puts (put before x) xs p.1 (n, i) (ap (λ y. get (put before y) (n, i)) h ∙ ap (λ m. get m (n, i)) (is before) ∙ get-insert cell_total before (n, i) v (n, i) ∙ ap (λ b. cond b (Some v) (get before (n, i))) ((eq_by_cmp_equiv cell_total).refl (n, i)) ∙ sym known)
    covered before (x ∷ xs) p e n i v (inr h) known is = covered (put before x) xs p.1 e n i v h known is

    pub makes_all : (k : ℕ) → ((n : ℕ) (i : InstanceId) (v : V) → get all (n, i) ≡ Some v → (n < k) × (among i (members (owner n) live) ≡ true) × ((b : FinMap cell_cmp V) → put b (make (point_at (phrase n) i.name) v) ≡ insert b (n, i) v)) → puts empty (upto k) ≡ all
    makes_all k h = same_map cell_total cell_exact (puts empty (upto k)) all (λ q. go q (get all q) refl)
      where
        each_puts : AllByRecursion Puts (upto k)
        each_puts = all_upto Puts k (λ n i v lt m g. record { number = n; inst = i; value = v; known = g; is = (h n i v g).2 })

        start : IsSome empty
        start q v g = absurd (let none : ◌≡◌ {A = Option V} None (Some v) = sym (get-empty cell_cmp q) ∙ g in cc none)

        nothing : (q : ℕ × InstanceId) → get all q ≡ None → (o : Option V) → get (puts empty (upto k)) q ≡ o → o ≡ None
        nothing q e None f = refl
        nothing q e (Some v) f = absurd (let none : ◌≡◌ {A = Option V} None (Some v) = sym e ∙ some_puts empty (upto k) each_puts start q v f in cc none)

        go : (q : ℕ × InstanceId) (o : Option V) → get all q ≡ o → get (puts empty (upto k)) q ≡ get all q
        go q None e = nothing q e (get (puts empty (upto k)) q) refl ∙ sym e
        go q (Some v) e = let x = h q.0 q.1 v e in covered empty (upto k) each_puts (make (point_at (phrase q.0) q.1.name) v) q.0 q.1 v (has_upto k q.0 q.1 v x.0 x.1 e) e x.2
