-- What filtered, mapped and joined lists contain, and in which order.
use Rattle.std.proofs.Common.{◌≡◌, ◌⊎◌, inl, inr, ℕ, zero, suc, ◌<◌, Bool, true, false, cond, List, [], ◌∷◌, ◌++◌, map, filter, flat_map, length, All, AllPairs, Contains, Option, None, Some, refl, sym, ◌∙◌, ap, subst, arith}
use Rattle.std.specs.List.{cons_option, filter_map}
use Rattle.std.specs.Prelude.{slice_index_or}
use Rattle.std.proofs.lemmas.List.Elements.{All-nil, All-cons, Contains-append_cases}
use Rattle.std.proofs.lemmas.List.Kept.{AllPairs-cons}
use Rattle.opa_tree.proofs.Members.{none_in, contains_head, contains_tail, contains_cases, flat_out}
use Rattle.opa_mean.specs.SlotLaws.{Precedes}

-- what a filter keeps
pub filter_out : {X : Type 0} (p : X → Bool) (xs : List X) (x : X) → Contains (filter p xs) x → Contains xs x × (p x ≡ true)
filter_out p [] x h = absurd (none_in x h)
filter_out p (y ∷ xs) x h = go (p y) refl h (filter_out p xs x)
  where
    go : (b : Bool) → p y ≡ b → Contains (cond b (y ∷ filter p xs) (filter p xs)) x → (Contains (filter p xs) x → Contains xs x × (p x ≡ true)) → Contains (y ∷ xs) x × (p x ≡ true)
    go false q h rest = let r = rest h in (contains_tail y x xs r.0, r.1)
    go true q h rest = at (contains_cases y x (filter p xs) h)
      where
        at : (y ≡ x) ⊎ Contains (filter p xs) x → Contains (y ∷ xs) x × (p x ≡ true)
        at (inl e) = (subst (Contains (y ∷ xs)) e (contains_head y xs), ap p (sym e) ∙ q)
        at (inr k) = let r = rest k in (contains_tail y x xs r.0, r.1)

pub filter_in : {X : Type 0} (p : X → Bool) (xs : List X) (x : X) → Contains xs x → p x ≡ true → Contains (filter p xs) x
filter_in p [] x h e = absurd (none_in x h)
filter_in p (y ∷ xs) x h e = go (contains_cases y x xs h) (λ k. filter_in p xs x k e)
  where
    here : (b : Bool) → b ≡ true → Contains (cond b (y ∷ filter p xs) (filter p xs)) y
    here true q = contains_head y (filter p xs)
    here false q = absurd (cc q)

    there : (b : Bool) → Contains (filter p xs) x → Contains (cond b (y ∷ filter p xs) (filter p xs)) x
    there true k = contains_tail y x (filter p xs) k
    there false k = k

    go : (y ≡ x) ⊎ Contains xs x → (Contains xs x → Contains (filter p xs) x) → Contains (cond (p y) (y ∷ filter p xs) (filter p xs)) x
    go (inl q) rest = subst (λ z. Contains (cond (p y) (y ∷ filter p xs) (filter p xs)) z) q (here (p y) (ap p q ∙ e))
    go (inr k) rest = there (p y) (rest k)

pub map_out : {X Y : Type 0} (f : X → Y) (xs : List X) (y : Y) → Contains (map f xs) y → (x : X) × (Contains xs x × (f x ≡ y))
map_out f [] y h = absurd (none_in y h)
map_out {X = X} f (z ∷ xs) y h = go (contains_cases (f z) y (map f xs) h) (map_out f xs y)
  where
    go : (f z ≡ y) ⊎ Contains (map f xs) y → (Contains (map f xs) y → (x : X) × (Contains xs x × (f x ≡ y))) → (x : X) × (Contains (z ∷ xs) x × (f x ≡ y))
    go (inl e) rest = (z, (contains_head z xs, e))
    go (inr k) rest = let r = rest k in (r.0, (contains_tail z r.0 xs r.1.0, r.1.1))

pub filter_none : {X : Type 0} (p : X → Bool) (xs : List X) → ((x : X) → Contains xs x → p x ≡ false) → filter p xs ≡ []
filter_none p [] h = refl
filter_none p (x ∷ xs) h = ap (λ b. cond b (x ∷ filter p xs) (filter p xs)) (h x (contains_head x xs)) ∙ filter_none p xs (λ y k. h y (contains_tail x y xs k))

pub filter_map_none : {X Y : Type 0} (f : X → Option Y) (xs : List X) → ((x : X) → Contains xs x → f x ≡ None) → filter_map f xs ≡ []
filter_map_none f [] h = refl
filter_map_none f (x ∷ xs) h = ap (λ o. cons_option o (filter_map f xs)) (h x (contains_head x xs)) ∙ filter_map_none f xs (λ y k. h y (contains_tail x y xs k))

pub filter_map_out : {X Y : Type 0} (f : X → Option Y) (xs : List X) (y : Y) → Contains (filter_map f xs) y → (x : X) × (Contains xs x × (f x ≡ Some y))
filter_map_out f [] y h = absurd (none_in y h)
filter_map_out {X = X} {Y = Y} f (z ∷ xs) y h = go (f z) refl h (filter_map_out f xs y)
  where
    go : (o : Option Y) → f z ≡ o → Contains (cons_option o (filter_map f xs)) y → (Contains (filter_map f xs) y → (x : X) × (Contains xs x × (f x ≡ Some y))) → (x : X) × (Contains (z ∷ xs) x × (f x ≡ Some y))
    go None e k rest = let r = rest k in (r.0, (contains_tail z r.0 xs r.1.0, r.1.1))
    go (Some w) e k rest = at (contains_cases w y (filter_map f xs) k)
      where
        at : (w ≡ y) ⊎ Contains (filter_map f xs) y → (x : X) × (Contains (z ∷ xs) x × (f x ≡ Some y))
        at (inl q) = (z, (contains_head z xs, e ∙ ap Some q))
        at (inr k) = let r = rest k in (r.0, (contains_tail z r.0 xs r.1.0, r.1.1))

pub filter_map_in : {X Y : Type 0} (f : X → Option Y) (xs : List X) (x : X) (y : Y) → Contains xs x → f x ≡ Some y → Contains (filter_map f xs) y
filter_map_in f [] x y h e = absurd (none_in x h)
filter_map_in {X = X} {Y = Y} f (z ∷ xs) x y h e = go (contains_cases z x xs h) (λ k. filter_map_in f xs x y k e)
  where
    there : (o : Option Y) → Contains (filter_map f xs) y → Contains (cons_option o (filter_map f xs)) y
    there None k = k
    there (Some w) k = contains_tail w y (filter_map f xs) k

    go : (z ≡ x) ⊎ Contains xs x → (Contains xs x → Contains (filter_map f xs) y) → Contains (cons_option (f z) (filter_map f xs)) y
    go (inl q) rest = subst (λ o. Contains (cons_option o (filter_map f xs)) y) (sym (ap f q ∙ e)) (contains_head y (filter_map f xs))
    go (inr k) rest = there (f z) (rest k)

-- the relation holds of each item and each later one
abbrev pub Ordered : {X : Type 0} → (X → X → Type 0) → List X → Type 0
Ordered R [] = Unit {0}
Ordered {X} R (x ∷ xs) = ((y : X) → Contains xs y → R x y) × Ordered R xs

pub ordered_pairs : {X : Type 0} (R : X → X → Type 0) (xs : List X) → Ordered R xs → AllPairs R xs
ordered_pairs R [] d = λ i j x lt inside. absurd (omega arith)
ordered_pairs R (x ∷ xs) d = AllPairs-cons R x xs (others xs d.0) (ordered_pairs R xs d.1)
  where
    others : (ys : List _) → ((y : _) → Contains ys y → R x y) → All (R x) ys
    others [] h = All-nil (R x)
    others (y ∷ ys) h = All-cons (R x) y ys (h y (contains_head y ys)) (others ys (λ z there. h z (contains_tail y z ys there)))

pub ordered_append : {X : Type 0} (R : X → X → Type 0) (xs ys : List X) → Ordered R xs → Ordered R ys → ((x y : X) → Contains xs x → Contains ys y → R x y) → Ordered R (xs ++ ys)
ordered_append R [] ys d e across = e
ordered_append {X = X} R (x ∷ xs) ys d e across = (
  λ y h. go y (Contains-append_cases xs ys y h),
  ordered_append R xs ys d.1 e (λ z y k l. across z y (contains_tail x z xs k) l),
)
  where
    go : (y : X) → Contains xs y ⊎ Contains ys y → R x y
    go y (inl k) = d.0 y k
    go y (inr k) = across x y (contains_head x xs) k

pub ordered_weaker : {X : Type 0} (R S : X → X → Type 0) (xs : List X) → ((x y : X) → Contains xs x → Contains xs y → R x y → S x y) → Ordered R xs → Ordered S xs
ordered_weaker R S [] f d = tt
ordered_weaker R S (x ∷ xs) f d = (
  λ y h. f x y (contains_head x xs) (contains_tail x y xs h) (d.0 y h),
  ordered_weaker R S xs (λ y z h k. f y z (contains_tail x y xs h) (contains_tail x z xs k)) d.1,
)

pub ordered_filter : {X : Type 0} (R : X → X → Type 0) (p : X → Bool) (xs : List X) → Ordered R xs → Ordered R (filter p xs)
ordered_filter R p [] d = tt
ordered_filter R p (x ∷ xs) d = go (p x) (ordered_filter R p xs d.1)
  where
    go : (b : Bool) → Ordered R (filter p xs) → Ordered R (cond b (x ∷ filter p xs) (filter p xs))
    go true rest = (λ y h. d.0 y (filter_out p xs y h).0, rest)
    go false rest = rest

pub ordered_map : {X Y : Type 0} (R : Y → Y → Type 0) (f : X → Y) (xs : List X) → Ordered (λ x y. R (f x) (f y)) xs → Ordered R (map f xs)
ordered_map R f [] d = tt
ordered_map R f (x ∷ xs) d = (λ y h. let m = map_out f xs y h in subst (R (f x)) m.1.1 (d.0 m.0 m.1.0), ordered_map R f xs d.1)

pub ordered_flat : {X Y : Type 0} (S : X → X → Type 0) (R : Y → Y → Type 0) (f : X → List Y) → ((x y : X) (u v : Y) → S x y → Contains (f x) u → Contains (f y) v → R u v) → ((x : X) → Ordered R (f x)) → (xs : List X) → Ordered S xs → Ordered R (flat_map f xs)
ordered_flat S R f across own [] d = tt
ordered_flat S R f across own (x ∷ xs) d =
    ordered_append R (f x) (flat_map f xs) (own x) (ordered_flat S R f across own xs d.1)
    (λ u v h k. let m = flat_out f xs v k in across x m.0 u v (d.0 m.0 m.1.0) h m.1.1)

later : {X : Type 0} (z : X) (xs : List X) (x y : X) → Precedes xs x y → Precedes (z ∷ xs) x y
later z xs x y (i, (j, (lt, (inside, (at, there))))) = (suc i, (suc j, (omega (arith, lt), (omega (arith, inside), (at, there)))))

-- each item stands before each later one
pub all_precede : {X : Type 0} (xs : List X) → Ordered (Precedes xs) xs
all_precede [] = tt
all_precede (x ∷ xs) = (λ y h. first y h, ordered_weaker (Precedes xs) (Precedes (x ∷ xs)) xs (λ y z _ _ k. later x xs y z k) (all_precede xs))
  where
    first : (y : _) → Contains xs y → Precedes (x ∷ xs) x y
    first y (k, lt, is) = (0, (suc k, (omega arith, (omega (arith, lt), (refl, get_any xs k y x lt is)))))
      where
        get_any : {X : Type 0} (xs : List X) (k : ℕ) (y x : X) → k < length xs → slice_index_or xs k y ≡ y → slice_index_or xs k x ≡ y
        get_any [] k y x lt is = absurd (omega arith)
        get_any (z ∷ xs) zero y x lt is = is
        get_any (z ∷ xs) (suc k) y x lt is = get_any xs k y x (omega (arith, lt)) is
