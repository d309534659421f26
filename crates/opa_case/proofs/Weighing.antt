-- Weights: two lists are one but for their order where each way to weigh their parts gives the same sum.
use Rattle.std.specs.Prelude.{◌≡◌, ◌≤◌, ◌<◌, ◌+◌, ◌==◌, ℕ, zero, suc, Bool, true, false, cond, not, ◌||◌, ◌&&◌, List, [], ◌∷◌, ◌++◌, Some, None, map, filter, flat_map, length, refl}
use Rattle.std.specs.List.{list_any, AllByRecursion}
use Rattle.std.specs.Map.{lookup}
use Rattle.std.specs.Cmp.{eq_by_cmp_equiv}
use Rattle.std.specs.Cmp.Lexicographic.{nat_list_cmp_total}
use Rattle.std.proofs.Common.{arith, ap, sym, subst, ◌∙◌, ◌⊎◌, inl, inr}
use Rattle.std.proofs.lemmas.Bool.{and_parts}
use mathlib.Core.Bool.{true≢false}
use Rattle.opa_cells.specs.declared.instance.InstanceId.{InstanceId}
use Rattle.opa_cells.specs.Instances.{is_same, is_text}
use Rattle.opa_cells.proofs.Orders.{same_is, same_itself}
use Rattle.opa_case.specs.Live.{Names, Population}
use Rattle.opa_case.specs.Cases.{are_names, is_empty}
use Rattle.opa_case.specs.Turns.{names_without}
use Rattle.opa_case.proofs.Stands.{text_is}

abbrev pub weigh : {X : Type 0} → (X → ℕ) → List X → ℕ
weigh w [] = 0
weigh w (x ∷ xs) = w x + weigh w xs

-- 1 where a test holds
abbrev pub unit : Bool → ℕ
unit b = cond b 1 0

-- how many pass the test
abbrev pub counted : {X : Type 0} → (X → Bool) → List X → ℕ
counted p xs = weigh (λ x. cond (p x) 1 0) xs

pub weigh-append : {X : Type 0} (w : X → ℕ) (xs ys : List X) → weigh w (xs ++ ys) ≡ weigh w xs + weigh w ys
weigh-append w [] ys = omega arith
weigh-append w (x ∷ xs) ys = omega (arith, weigh-append w xs ys)

pub weigh_same : {X : Type 0} (v w : X → ℕ) → ((x : X) → v x ≡ w x) → (xs : List X) → weigh v xs ≡ weigh w xs
weigh_same v w same [] = refl
weigh_same v w same (x ∷ xs) = omega (arith, same x, weigh_same v w same xs)

pub weigh_less : {X : Type 0} (v w : X → ℕ) → ((x : X) → v x ≤ w x) → (xs : List X) → weigh v xs ≤ weigh w xs
weigh_less v w less [] = omega arith
weigh_less v w less (x ∷ xs) = omega (arith, less x, weigh_less v w less xs)

pub weigh_nothing : {X : Type 0} (w : X → ℕ) (xs : List X) → AllByRecursion (λ x. w x ≡ 0) xs → weigh w xs ≡ 0
weigh_nothing w [] h = refl
weigh_nothing w (x ∷ xs) h = omega (arith, h.0, weigh_nothing w xs h.1)

pub weigh-map : {X Y : Type 0} (w : Y → ℕ) (f : X → Y) (xs : List X) → weigh w (map f xs) ≡ weigh (λ x. w (f x)) xs
weigh-map w f [] = refl
weigh-map w f (x ∷ xs) = ap (λ n. w (f x) + n) (weigh-map w f xs)

pub weigh-flat : {X Y : Type 0} (w : Y → ℕ) (f : X → List Y) (xs : List X) → weigh w (flat_map f xs) ≡ weigh (λ x. weigh w (f x)) xs
weigh-flat w f [] = refl
weigh-flat w f (x ∷ xs) = weigh-append w (f x) (flat_map f xs) ∙ ap (λ n. weigh w (f x) + n) (weigh-flat w f xs)

pub weigh-filter : {X : Type 0} (w : X → ℕ) (p : X → Bool) (xs : List X) → weigh w (filter p xs) ≡ weigh (λ x. cond (p x) (w x) 0) xs
weigh-filter w p [] = refl
weigh-filter w p (x ∷ xs) =
    let rest = weigh-filter w p xs in
    elim (p x) as (λ b. weigh w (cond b (x ∷ filter p xs) (filter p xs)) ≡ cond b (w x) 0 + weigh (λ y. cond (p y) (w y) 0) xs) [ true ↦ omega (arith, rest) | false ↦ omega (arith, rest) ]

weigh-zero : {X : Type 0} (xs : List X) → weigh (λ _. 0) xs ≡ 0
weigh-zero [] = refl
weigh-zero (x ∷ xs) = omega (arith, weigh-zero xs)

weigh-add : {X : Type 0} (v w : X → ℕ) (xs : List X) → weigh (λ x. v x + w x) xs ≡ weigh v xs + weigh w xs
weigh-add v w [] = omega arith
weigh-add v w (x ∷ xs) = omega (arith, weigh-add v w xs)

-- sums over two lists, in either order
weigh_across : {X Y : Type 0} (f : X → Y → ℕ) (xs : List X) (ys : List Y) → weigh (λ x. weigh (f x) ys) xs ≡ weigh (λ y. weigh (λ x. f x y) xs) ys
weigh_across f [] ys = sym (weigh-zero ys)
weigh_across f (x ∷ xs) ys = ap (λ n. weigh (f x) ys + n) (weigh_across f xs ys) ∙ sym (weigh-add (f x) (λ y. weigh (λ z. f z y) xs) ys)

pub weigh_ones : {X : Type 0} (xs : List X) → weigh (λ _. 1) xs ≡ length xs
weigh_ones [] = refl
weigh_ones (x ∷ xs) = omega (arith, weigh_ones xs)

pub counted_is : {X : Type 0} (p : X → Bool) (xs : List X) → counted p xs ≡ length (filter p xs)
counted_is p xs = sym (weigh-filter (λ _. 1) p xs) ∙ weigh_ones (filter p xs)

pub counted_some : {X : Type 0} (p : X → Bool) (xs : List X) → list_any p xs ≡ true → 0 < counted p xs
counted_some p [] h = absurd (true≢false (sym h))
counted_some p (x ∷ xs) h =
    elim (p x) as (λ b. (b || list_any p xs) ≡ true → 0 < cond b 1 0 + counted p xs) [ true ↦ λ _. omega arith | false ↦ λ g. omega (arith, counted_some p xs g) ] h

pub counted_none : {X : Type 0} (p : X → Bool) (xs : List X) → list_any p xs ≡ false → counted p xs ≡ 0
counted_none p [] h = refl
counted_none p (x ∷ xs) h =
    elim (p x) as (λ b. (b || list_any p xs) ≡ false → cond b 1 0 + counted p xs ≡ 0) [ true ↦ λ g. absurd (true≢false g) | false ↦ λ g. omega (arith, counted_none p xs g) ] h

pub some_counted : {X : Type 0} (p : X → Bool) (xs : List X) → 0 < counted p xs → list_any p xs ≡ true
some_counted p xs h = go (list_any p xs) refl
  where
    go : (b : Bool) → list_any p xs ≡ b → b ≡ true
    go true e = refl
    go false e = absurd (omega (arith, h, counted_none p xs e))

pub none_counted : {X : Type 0} (p : X → Bool) (xs : List X) → counted p xs ≡ 0 → list_any p xs ≡ false
none_counted p xs h = go (list_any p xs) refl
  where
    go : (b : Bool) → list_any p xs ≡ b → b ≡ false
    go true e = absurd (omega (arith, h, counted_some p xs e))
    go false e = refl

-- Names of which none stands twice.

-- a name weighs once what it weighs, if it is listed
pub once_listed : (a : List ℕ) (k : ℕ) (ns : Names) → are_names ns ≡ true → weigh (λ b. cond (is_text a b) k 0) ns ≡ cond (list_any (is_text a) ns) k 0
once_listed a k [] h = refl
once_listed a k (n ∷ ns) h =
    let parts = and_parts (not (is_empty n) && not (list_any (is_text n) ns)) (are_names ns) h in
    let fresh = (and_parts (not (is_empty n)) (not (list_any (is_text n) ns)) parts.0).1 in
    let rest = once_listed a k ns parts.1 in
    elim (is_text a n) as (λ b. is_text a n ≡ b → cond b k 0 + weigh (λ c. cond (is_text a c) k 0) ns ≡ cond (b || list_any (is_text a) ns) k 0) [
      | true ↦ λ e.
          let none : list_any (is_text a) ns ≡ false = ap (λ m. list_any (is_text m) ns) (text_is a n e) ∙ opposite _ fresh in
          let nothing : cond (list_any (is_text a) ns) k 0 ≡ 0 = ap (λ b. cond b k 0) none in
          omega (arith, rest, nothing)
      | false ↦ λ _. omega (arith, rest)
    ] refl
  where
    opposite : (b : Bool) → not b ≡ true → b ≡ false
    opposite true e = absurd (true≢false (sym e))
    opposite false e = refl

-- what two lists share weighs the same, taken from either
shared : (w : List ℕ → ℕ) (xs ys : Names) → are_names xs ≡ true → are_names ys ≡ true → weigh (λ x. cond (list_any (is_text x) ys) (w x) 0) xs ≡ weigh (λ y. cond (list_any (is_text y) xs) (w y) 0) ys
shared w xs ys p q =
    weigh_same (λ x. cond (list_any (is_text x) ys) (w x) 0) (λ x. weigh (λ y. cond (is_text x y) (w x) 0) ys) (λ x. sym (once_listed x (w x) ys q)) xs
    ∙ weigh_across (λ x y. cond (is_text x y) (w x) 0) xs ys
    ∙ weigh_same (λ y. weigh (λ x. cond (is_text x y) (w x) 0) xs) (λ y. cond (list_any (is_text y) xs) (w y) 0) (λ y. weigh_same (λ x. cond (is_text x y) (w x) 0) (λ x. cond (is_text y x) (w y) 0) (λ x. turned x y) xs ∙ once_listed y (w y) xs p) ys
  where
    turned : (x y : List ℕ) → cond (is_text x y) (w x) 0 ≡ cond (is_text y x) (w y) 0
    turned x y =
        ap (λ b. cond b (w x) 0) ((eq_by_cmp_equiv nat_list_cmp_total).symm x y)
        ∙ elim (is_text y x) as (λ b. is_text y x ≡ b → cond b (w x) 0 ≡ cond b (w y) 0) [ true ↦ λ e. ap w (sym (text_is y x e)) | false ↦ λ _. refl ] refl

parted : {X : Type 0} (w : X → ℕ) (p : X → Bool) (xs : List X) → weigh w xs ≡ weigh (λ x. cond (p x) (w x) 0) xs + weigh w (filter (λ x. not (p x)) xs)
parted w p [] = omega arith
parted w p (x ∷ xs) =
    let rest = parted w p xs in
    elim (p x) as (λ b. w x + weigh w xs ≡ cond b (w x) 0 + weigh (λ y. cond (p y) (w y) 0) xs + weigh w (cond (not b) (x ∷ filter (λ y. not (p y)) xs) (filter (λ y. not (p y)) xs))) [ true ↦ omega (arith, rest) | false ↦ omega (arith, rest) ]

pub without_less : (w : List ℕ → ℕ) (old new : Names) → weigh w (names_without old new) ≤ weigh w old
without_less w old new = omega (arith, parted w (λ n. list_any (is_text n) new) old)

-- new names with those that go weigh what old names with those that come weigh
pub exchanged : (w : List ℕ → ℕ) (old new : Names) → are_names old ≡ true → are_names new ≡ true → weigh w new + weigh w (names_without old new) ≡ weigh w old + weigh w (names_without new old)
exchanged w old new p q = omega (arith, parted w (λ n. list_any (is_text n) new) old, parted w (λ n. list_any (is_text n) old) new, shared w old new p q)

-- Sums over instances.

abbrev pub times : InstanceId → List InstanceId → ℕ
times i cs = counted (is_same i) cs

pub weigh_apart : (f g : InstanceId → ℕ) (i : InstanceId) → ((c : InstanceId) → is_same i c ≡ false → f c ≡ g c) → (cs : List InstanceId) → times i cs ≡ 0 → weigh f cs ≡ weigh g cs
weigh_apart f g i same [] h = refl
weigh_apart f g i same (c ∷ cs) h =
    elim (is_same i c) as (λ b. is_same i c ≡ b → cond b 1 0 + times i cs ≡ 0 → f c + weigh f cs ≡ g c + weigh g cs) [
      | true ↦ λ _ k. absurd (omega (arith, k))
      | false ↦ λ e k. omega (arith, same c e, weigh_apart f g i same cs (omega (arith, k)))
    ] refl h

-- sums that differ at one instance alone, which stands there once
pub weigh_once : (f g : InstanceId → ℕ) (i : InstanceId) (a b : ℕ) → ((c : InstanceId) → is_same i c ≡ false → f c ≡ g c) → f i + a ≡ g i + b → (cs : List InstanceId) → times i cs ≡ 1 → weigh f cs + a ≡ weigh g cs + b
weigh_once f g i a b same here [] h = absurd (omega (arith, h))
weigh_once f g i a b same here (c ∷ cs) h =
    elim (is_same i c) as (λ t. is_same i c ≡ t → cond t 1 0 + times i cs ≡ 1 → f c + weigh f cs + a ≡ g c + weigh g cs + b) [
      | true ↦ λ e k.
          let at_f : f c ≡ f i = ap f (sym (same_is i c e)) in
          let at_g : g c ≡ g i = ap g (sym (same_is i c e)) in
          omega (arith, here, at_f, at_g, weigh_apart f g i same cs (omega (arith, k)))
      | false ↦ λ e k. omega (arith, same c e, weigh_once f g i a b same here cs (omega (arith, k)))
    ] refl h

pub weigh_at_least : (f : InstanceId → ℕ) (i : InstanceId) (cs : List InstanceId) → 0 < times i cs → f i ≤ weigh f cs
weigh_at_least f i [] h = absurd (omega (arith, h))
weigh_at_least f i (c ∷ cs) h =
    elim (is_same i c) as (λ t. is_same i c ≡ t → 0 < cond t 1 0 + times i cs → f i ≤ f c + weigh f cs) [
      | true ↦ λ e _. let at_f : f i ≡ f c = ap f (same_is i c e) in omega (arith, at_f)
      | false ↦ λ _ k. omega (arith, weigh_at_least f i cs (omega (arith, k)))
    ] refl h

some_weight : (f : InstanceId → ℕ) (cs : List InstanceId) → (weigh f cs ≡ 0) ⊎ ((c : InstanceId) × (0 < f c))
some_weight f [] = inl refl
some_weight f (c ∷ cs) = go (f c) refl (some_weight f cs)
  where
    go : (n : ℕ) → f c ≡ n → (weigh f cs ≡ 0) ⊎ ((d : InstanceId) × (0 < f d)) → (f c + weigh f cs ≡ 0) ⊎ ((d : InstanceId) × (0 < f d))
    go zero e (inl none) = inl (omega (arith, e, none))
    go zero e (inr some) = inr some
    go (suc n) e rest = inr (c, omega (arith, e))

-- one instance at most weighs anything, and no more than 1
pub weigh_one : (f : InstanceId → ℕ) (cs : List InstanceId) → ((c : InstanceId) → f c ≤ 1) → ((c d : InstanceId) → 0 < f c → 0 < f d → c ≡ d) → ((c : InstanceId) → times c cs ≤ 1) → weigh f cs ≤ 1
weigh_one f cs light one once = go (some_weight f cs)
  where
    under : (c : InstanceId) → 0 < f c → (d : InstanceId) → f d ≤ cond (is_same c d) 1 0
    under c some d = elim (is_same c d) as (λ b. is_same c d ≡ b → f d ≤ cond b 1 0) [
      | true ↦ λ _. light d
      | false ↦ λ e. by (f d) refl e
    ] refl
      where
        by : (n : ℕ) → f d ≡ n → is_same c d ≡ false → f d ≤ 0
        by zero at e = omega (arith, at)
        by (suc n) at e = absurd (true≢false (sym (same_itself c) ∙ ap (is_same c) (one c d some (omega (arith, at))) ∙ e))

    go : (weigh f cs ≡ 0) ⊎ ((c : InstanceId) × (0 < f c)) → weigh f cs ≤ 1
    go (inl none) = omega (arith, none)
    go (inr (c, some)) = omega (arith, weigh_less f (λ d. cond (is_same c d) 1 0) (under c some) cs, once c)

-- Sums over populations.

-- what an instance weighs if it is of the entity
abbrev pub of_parent : ℕ → (InstanceId → ℕ) → InstanceId × InstanceId → ℕ
of_parent p f x = cond (x.0.entity.0 == p) (f x.0) 0

pub weigh_of : (f : InstanceId → ℕ) (p : ℕ) (xs : Population) → weigh f (map (λ x. x.0) (filter (λ x. x.0.entity.0 == p) xs)) ≡ weigh (of_parent p f) xs
weigh_of f p xs = weigh-map f (λ x. x.0) (filter (λ x. x.0.entity.0 == p) xs) ∙ weigh-filter (λ x. f x.0) (λ x. x.0.entity.0 == p) xs

-- how often an instance lives
abbrev pub occurs : InstanceId → Population → ℕ
occurs i xs = counted (λ x. is_same i x.0) xs

-- how often it lives in this container
abbrev pub paired : InstanceId → InstanceId → Population → ℕ
paired i d xs = weigh (λ x. cond (is_same i x.0) (cond (is_same d x.1) 1 0) 0) xs

pub paired_less : (i d : InstanceId) (xs : Population) → paired i d xs ≤ occurs i xs
paired_less i d xs = weigh_less (λ x. cond (is_same i x.0) (cond (is_same d x.1) 1 0) 0) (λ x. cond (is_same i x.0) 1 0) (λ x. under (is_same i x.0) (is_same d x.1)) xs
  where
    under : (a b : Bool) → cond a (cond b 1 0) 0 ≤ cond a 1 0
    under true true = omega arith
    under true false = omega arith
    under false b = omega arith

pub paired_found : (i d : InstanceId) (xs : Population) → lookup (is_same i) xs ≡ Some d → 0 < paired i d xs
paired_found i d [] h = absurd (cc h)
paired_found i d (x ∷ xs) h =
    elim (is_same i x.0) as (λ b. cond b (Some x.1) (lookup (is_same i) xs) ≡ Some d → 0 < cond b (cond (is_same d x.1) 1 0) 0 + paired i d xs) [
      | true ↦ λ g. let one : unit (is_same d x.1) ≡ 1 = ap unit (subst (λ c. is_same d c ≡ true) (sym (is x.1 g)) (same_itself d)) in omega (arith, one)
      | false ↦ λ g. omega (arith, paired_found i d xs g)
    ] h
  where
    is : (c : InstanceId) → Some c ≡ Some d → c ≡ d
    is c g = cc g

pub absent : (i : InstanceId) (xs : Population) → occurs i xs ≡ 0 → lookup (is_same i) xs ≡ None
absent i [] h = refl
absent i (x ∷ xs) h =
    elim (is_same i x.0) as (λ b. cond b 1 0 + occurs i xs ≡ 0 → cond b (Some x.1) (lookup (is_same i) xs) ≡ None) [ true ↦ λ k. absurd (omega (arith, k)) | false ↦ λ k. absent i xs (omega (arith, k)) ] h

pub found_paired : (i d : InstanceId) (xs : Population) → occurs i xs ≤ 1 → 0 < paired i d xs → lookup (is_same i) xs ≡ Some d
found_paired i d [] once h = absurd (omega (arith, h))
found_paired i d (x ∷ xs) once h =
    elim (is_same i x.0) as (λ b. cond b 1 0 + occurs i xs ≤ 1 → 0 < cond b (cond (is_same d x.1) 1 0) 0 + paired i d xs → cond b (Some x.1) (lookup (is_same i) xs) ≡ Some d) [
      | true ↦ λ o k. ap Some (sym (same_is d x.1 (here (is_same d x.1) (omega (arith, o, k, paired_less i d xs)))))
      | false ↦ λ o k. found_paired i d xs (omega (arith, o)) (omega (arith, k))
    ] once h
  where
    here : (b : Bool) → 0 < cond b 1 0 → b ≡ true
    here true h = refl
    here false h = absurd (omega (arith, h))
