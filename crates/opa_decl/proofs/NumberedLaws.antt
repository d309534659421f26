-- Lists that numbered items give: what an item gives stands at the place of that item's number.
use Rattle.std.proofs.Common.{◌≡◌, ◌∙◌, ◌+◌, ◌≤◌, ℕ, zero, suc, List, [], ◌∷◌, ◌++◌, map, length, Some, All, Contains, slice_get, ◌⊎◌, inl, inr, ⊎_elim, refl, ap, ap₂, arith}
use Rattle.std.specs.Prelude.{flat_map}
use Rattle.std.proofs.lemmas.List.{length-append, map-append}
use Rattle.std.proofs.lemmas.List.Elements.{All-nil, All-cons, All-append, All-head, All-tail, Contains-get_or}
use Rattle.opa_decl.specs.declared.items.Item.{Item}
use Rattle.opa_decl.specs.declared.numbered.Counts.{Counts}
use Rattle.opa_decl.specs.declared.numbered.Numbered.{Numbered}
use Rattle.opa_decl.specs.Numbering.{numbered, counts_after}

-- ---- places in joined lists

pub slice_get-behind : {A : Type 0} (xs ys : List A) (j k : ℕ) → j ≡ length xs + k → slice_get (xs ++ ys) j ≡ slice_get ys k
slice_get-behind [] ys j k e = let same : j ≡ k = omega (arith, e) in ap (slice_get ys) same
slice_get-behind (x ∷ xs) ys zero k e = absurd (omega (arith, e))
slice_get-behind (x ∷ xs) ys (suc j) k e = slice_get-behind xs ys j k (omega (arith, e))

slice_get-cases : {A : Type 0} (xs ys : List A) (k : ℕ) (x : A) → slice_get (xs ++ ys) k ≡ Some x → (slice_get xs k ≡ Some x) ⊎ ((j : ℕ) × (k ≡ length xs + j) × (slice_get ys j ≡ Some x))
slice_get-cases [] ys k x h = inr (k, omega arith, h)
slice_get-cases (y ∷ xs) ys zero x h = inl h
slice_get-cases {A} (y ∷ xs) ys (suc k) x h =
    ⊎_elim inl (λ (r : (j : ℕ) × (k ≡ length xs + j) × (slice_get ys j ≡ Some x)). inr (r.0, omega (arith, r.1), r.2)) (slice_get-cases xs ys k x h)

the_only : {A : Type 0} (xs : List A) (k : ℕ) (x : A) → length xs ≤ 1 → slice_get xs k ≡ Some x → (k ≡ 0) × (xs ≡ x ∷ [])
the_only [] k x short h = absurd (cc h)
the_only {A} (y ∷ []) zero x short h = (refl, ap (λ (z : A). z ∷ []) (let e : y ≡ x = cc h in e))
the_only (y ∷ []) (suc k) x short h = absurd (cc h)
the_only (y ∷ z ∷ xs) k x short h = absurd (omega (arith, short))

-- ---- what holds of each

pub each_of : {A : Type 0} (P : A → Type 0) (xs : List A) → ((x : A) → Contains xs x → P x) → All P xs
each_of {A} P xs h = λ (k : ℕ) (d : A) within. h _ (Contains-get_or xs k d within)

pub no_parts : {A : Type 0} (xs ys : List A) → xs ++ ys ≡ [] → (xs ≡ []) × (ys ≡ [])
no_parts [] ys h = (refl, h)
no_parts (x ∷ xs) ys h = absurd (cc h)

pub nothing : {A B : Type 0} (f : A → List B) (xs : List A) → flat_map f xs ≡ [] → All (λ x. f x ≡ []) xs
nothing f [] h = All-nil (λ x. f x ≡ [])
nothing f (x ∷ xs) h = let p = no_parts (f x) (flat_map f xs) h in All-cons (λ y. f y ≡ []) x xs p.0 (nothing f xs p.1)

pub all_flat : {A B : Type 0} (P : B → Type 0) (f : A → List B) (xs : List A) → All (λ x. All P (f x)) xs → All P (flat_map f xs)
all_flat P f [] h = All-nil P
all_flat P f (x ∷ xs) h = All-append P (f x) (flat_map f xs) (All-head (λ y. All P (f y)) x xs h) (all_flat P f xs (All-tail (λ y. All P (f y)) x xs h))

pub map-flat_map : {A B C : Type 0} (h : B → C) (f : A → List B) (xs : List A) → map h (flat_map f xs) ≡ flat_map (λ x. map h (f x)) xs
map-flat_map h f [] = refl
map-flat_map {A} {B} {C} h f (x ∷ xs) = map-append h (f x) (flat_map f xs) ∙ ap (λ (ys : List C). map h (f x) ++ ys) (map-flat_map h f xs)

pub flat_map-same : {A B : Type 0} (f g : A → List B) → ((x : A) → f x ≡ g x) → (xs : List A) → flat_map f xs ≡ flat_map g xs
flat_map-same f g same [] = refl
flat_map-same {A} {B} f g same (x ∷ xs) = ap₂ (λ (a b : List B). a ++ b) (same x) (flat_map-same f g same xs)

-- what items give whatever their numbers
pub whatever_number : {A : Type 0} (g : Item → List A) (c : Counts) (items : List Item) → flat_map (λ n. g n.item) (numbered c items) ≡ flat_map g items
whatever_number g c [] = refl
whatever_number {A} g c (i ∷ is) = ap (λ (ys : List A). g i ++ ys) (whatever_number g (counts_after c i) is)

pub length-numbered : (c : Counts) (items : List Item) → length (numbered c items) ≡ length items
length-numbered c [] = refl
length-numbered c (i ∷ is) = ap suc (length-numbered (counts_after c i) is)

-- ---- numbers as places

module _ {A : Type 0} (f : Numbered → List A) (count : Counts → ℕ) (counts : (c : Counts) (i : Item) → count (counts_after c i) ≡ count c + length (f (record { before = c; item = i }))) where
  -- a number is between the first and the last
  pub number_within : (c : Counts) (items : List Item) (n : Numbered) → Contains (numbered c items) n → (count c ≤ count n.before) × (count n.before + length (f n) ≤ count c + length (flat_map f (numbered c items)))
  number_within c [] n (k, within, is) = absurd (omega (arith, within))
  number_within c (i ∷ is) n (zero, within, here) =
      let first : Numbered = record { before = c; item = i } in
      let same : count c ≡ count n.before = ap (λ (m : Numbered). count m.before) here in
      let long : length (f first) ≡ length (f n) = ap (λ (m : Numbered). length (f m)) here in
      (omega (arith, same), omega (arith, same, long, length-append (f first) (flat_map f (numbered (counts_after c i) is))))
  number_within c (i ∷ is) n (suc k, within, there) =
      let first : Numbered = record { before = c; item = i } in
      let rest = number_within (counts_after c i) is n (k, omega (arith, within), there) in
      (omega (arith, rest.0, counts c i), omega (arith, rest.1, counts c i, length-append (f first) (flat_map f (numbered (counts_after c i) is))))

  -- what an item gives stands at its number
  pub stands_in : (c : Counts) (items : List Item) (n : Numbered) (x : A) → Contains (numbered c items) n → f n ≡ x ∷ [] → (k : ℕ) × (count n.before ≡ count c + k) × (slice_get (flat_map f (numbered c items)) k ≡ Some x)
  stands_in c [] n x (k, within, is) one = absurd (omega (arith, within))
  stands_in c (i ∷ is) n x (zero, within, here) one =
      let same : count c ≡ count n.before = ap (λ (m : Numbered). count m.before) here in
      let one_here : f (record { before = c; item = i }) ≡ x ∷ [] = ap f here ∙ one in
      (0, omega (arith, same), ap (λ (ys : List A). slice_get (ys ++ flat_map f (numbered (counts_after c i) is)) 0) one_here)
  stands_in c (i ∷ is) n x (suc k, within, there) one =
      let first : Numbered = record { before = c; item = i } in
      let rest = stands_in (counts_after c i) is n x (k, omega (arith, within), there) one in
      (length (f first) + rest.0, omega (arith, rest.1, counts c i), slice_get-behind (f first) (flat_map f (numbered (counts_after c i) is)) (length (f first) + rest.0) rest.0 refl ∙ rest.2)

  -- what stands at a place is given by the item of that number
  pub comes_from : ((n : Numbered) → length (f n) ≤ 1) → (c : Counts) (items : List Item) (k : ℕ) (x : A) → slice_get (flat_map f (numbered c items)) k ≡ Some x
      → (n : Numbered) × Contains (numbered c items) n × (f n ≡ x ∷ []) × (count n.before ≡ count c + k)
  comes_from short c [] k x h = absurd (cc h)
  comes_from short c (i ∷ is) k x h =
      let first : Numbered = record { before = c; item = i } in
      ⊎_elim
      (λ (here : slice_get (f first) k ≡ Some x). let only = the_only (f first) k x (short first) here in (first, (0, omega arith, refl), only.1, omega (arith, only.0)))
      (λ (there : (j : ℕ) × (k ≡ length (f first) + j) × (slice_get (flat_map f (numbered (counts_after c i) is)) j ≡ Some x)).
      let rest = comes_from short (counts_after c i) is there.0 x there.2 in (rest.0, (suc rest.1.0, omega (arith, rest.1.1), rest.1.2), rest.2, omega (arith, rest.3, there.1, counts c i)))
      (slice_get-cases (f first) (flat_map f (numbered (counts_after c i) is)) k x h)
