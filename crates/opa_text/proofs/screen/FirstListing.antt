-- The first screen that lists a question is the only one.
use Rattle.std.proofs.Common.{◌≡◌, ℕ, zero, suc, ◌+◌, ◌<◌, ◌≤◌, Bool, true, false, cond, List, [], ◌∷◌, ◌++◌, length, drop, Some, refl, sym, ◌∙◌, ap, arith, add-one}
use Rattle.std.specs.Prelude.{slice_get, unwrap_or, ◌||◌, ◌≢◌, flat_map, AllPairs, get_or}
use Rattle.std.specs.List.{list_any, position_from}
use Rattle.std.proofs.lemmas.Bool.{eqb-true}
use Rattle.opa_model.specs.declared.ids.AttrId.{AttrId}
use Rattle.opa_model.specs.declared.ids.RelId.{RelId}
use Rattle.opa_model.specs.declared.things.Item.{Item}
use Rattle.opa_model.specs.declared.things.Item.TheVariants as item
use Rattle.opa_model.specs.declared.things.Screen.{Screen}
use Rattle.opa_model.proofs.PhrasesLaws.{pairs_right}
use Rattle.opa_case.specs.declared.question.Question.{Question}
use Rattle.opa_case.specs.declared.question.Question.TheVariants as question
use Rattle.opa_text.specs.Screen.Screens.{asks, lists}

module _ {X : Type 0} (p : X → Bool) where
  drop_at : (xs : List X) (n : ℕ) (x : X) → slice_get xs n ≡ Some x → drop n xs ≡ x ∷ drop (n + 1) xs
  drop_at [] n x e = absurd (none_there n x e)
    where
      none_there : (n : ℕ) (x : X) → slice_get [] n ≡ Some x → ⊥
      none_there zero x e = cc e
      none_there (suc n) x e = cc e
  drop_at (y ∷ xs) zero x e = let same : y ≡ x = cc e in ap (λ z. z ∷ xs) same
  drop_at (y ∷ xs) (suc n) x e = drop_at xs n x e ∙ ap (λ m. x ∷ drop m xs) (add-one n) ∙ sym (ap (λ m. x ∷ drop m (y ∷ xs)) (add-one (suc n)))

  -- here, where the item of this place passes
  pub here : (xs : List X) (n k : ℕ) (x : X) → slice_get xs n ≡ Some x → p x ≡ true → unwrap_or (position_from p k (drop n xs)) 0 ≡ k
  here xs n k x at passes = ap (λ l. unwrap_or (position_from p k l) 0) (drop_at xs n x at) ∙ ap (λ b. unwrap_or (cond b (Some k) (position_from p (k + 1) (drop (n + 1) xs))) 0) passes

  -- further on, where it doesn't
  pub further : (xs : List X) (n k : ℕ) (x : X) → slice_get xs n ≡ Some x → p x ≡ false → unwrap_or (position_from p k (drop n xs)) 0 ≡ unwrap_or (position_from p (k + 1) (drop (n + 1) xs)) 0
  further xs n k x at fails = ap (λ l. unwrap_or (position_from p k l) 0) (drop_at xs n x at) ∙ ap (λ b. unwrap_or (cond b (Some k) (position_from p (k + 1) (drop (n + 1) xs))) 0) fails

  -- counted from 1, it is at most how many they are
  pub at_most : (xs : List X) (k : ℕ) → unwrap_or (position_from p (k + 1) xs) 0 ≤ k + length xs
  at_most [] k = omega arith
  at_most (x ∷ xs) k = go (p x) (at_most xs (k + 1))
    where
      go : (b : Bool) → unwrap_or (position_from p (k + 1 + 1) xs) 0 ≤ k + 1 + length xs → unwrap_or (cond b (Some (k + 1)) (position_from p (k + 1 + 1) xs)) 0 ≤ k + suc (length xs)
      go true h = omega arith
      go false h = omega (arith, h)

  -- where one passes, there is a place at which one does
  any_at : (xs : List X) (d : X) → list_any p xs ≡ true → (j : ℕ) × (j < length xs) × (p (get_or xs j d) ≡ true)
  any_at [] d h = absurd (cc h)
  any_at (x ∷ xs) d h = go (p x) refl h (any_at xs d)
    where
      go : (b : Bool) → p x ≡ b → (b || list_any p xs) ≡ true → (list_any p xs ≡ true → (j : ℕ) × (j < length xs) × (p (get_or xs j d) ≡ true)) → (j : ℕ) × (j < suc (length xs)) × (p (get_or (x ∷ xs) j d) ≡ true)
      go true e h rest = (0, omega arith, e)
      go false e h rest = let found = rest h in (suc found.0, omega (arith, found.1), found.2)

  any_left : (xs ys : List X) → list_any p xs ≡ true → list_any p (xs ++ ys) ≡ true
  any_left [] ys h = absurd (cc h)
  any_left (x ∷ xs) ys h = go (p x) h (any_left xs ys)
    where
      go : (b : Bool) → (b || list_any p xs) ≡ true → (list_any p xs ≡ true → list_any p (xs ++ ys) ≡ true) → (b || list_any p (xs ++ ys)) ≡ true
      go true h rest = refl
      go false h rest = rest h

  any_right : (xs ys : List X) → list_any p ys ≡ true → list_any p (xs ++ ys) ≡ true
  any_right [] ys h = h
  any_right (x ∷ xs) ys h = go (p x) (any_right xs ys h)
    where
      go : (b : Bool) → list_any p (xs ++ ys) ≡ true → (b || list_any p (xs ++ ys)) ≡ true
      go true h = refl
      go false h = h

attrs_same : (a b : AttrId) → a.0 ≡ b.0 → item.Attr a ≡ item.Attr b
attrs_same a b e = ap (λ (n : ℕ). item.Attr (record { 0 = n })) e

rels_same : (a b : RelId) → a.0 ≡ b.0 → item.Members a ≡ item.Members b
rels_same a b e = ap (λ (n : ℕ). item.Members (record { 0 = n })) e

module _ (q : Question) where
  -- a question asks for one item
  asks_one : (x y : Item) → asks q x ≡ true → asks q y ≡ true → x ≡ y
  asks_one = go q
    where
      go : (q : Question) (x y : Item) → asks q x ≡ true → asks q y ≡ true → x ≡ y
      go (question.Attr a i) (item.Attr b) (item.Attr c) h k = attrs_same b c (sym (eqb-true a.0 b.0 h) ∙ eqb-true a.0 c.0 k)
      go (question.Attr a i) (item.Attr b) (item.Members c) h k = absurd (cc k)
      go (question.Attr a i) (item.Members b) y h k = absurd (cc h)
      go (question.Members a i) (item.Members b) (item.Members c) h k = rels_same b c (sym (eqb-true a.0 b.0 h) ∙ eqb-true a.0 c.0 k)
      go (question.Members a i) (item.Members b) (item.Attr c) h k = absurd (cc k)
      go (question.Members a i) (item.Attr b) y h k = absurd (cc h)

  -- where all items differ, what is asked for by one isn't asked for by a later one
  none_later : (x : Item) (ys : List Item) → asks q x ≡ true → AllPairs (λ i j. i ≢ j) (x ∷ ys) → list_any (asks q) ys ≡ true → ⊥
  none_later x ys own differ h = let found = any_at (asks q) ys x h in differ 0 (suc found.0) x (omega arith) (omega (arith, found.1)) (asks_one x (get_or ys found.0 x) own found.2)

  behind : (x : Item) (ys : List Item) → AllPairs (λ i j. i ≢ j) (x ∷ ys) → AllPairs (λ i j. i ≢ j) ys
  behind x ys differ i j d low high = differ (suc i) (suc j) d (omega (arith, low)) (omega (arith, high))

  both_sides : (xs ys : List Item) → AllPairs (λ i j. i ≢ j) (xs ++ ys) → list_any (asks q) xs ≡ true → list_any (asks q) ys ≡ true → ⊥
  both_sides [] ys differ h k = cc h
  both_sides (x ∷ xs) ys differ h k = go (asks q x) refl h (both_sides xs ys (behind x (xs ++ ys) differ))
    where
      go : (b : Bool) → asks q x ≡ b → (b || list_any (asks q) xs) ≡ true → (list_any (asks q) xs ≡ true → list_any (asks q) ys ≡ true → ⊥) → ⊥
      go true e h rest = none_later x (xs ++ ys) e differ (any_right (asks q) xs ys k)
      go false e h rest = rest h k

  listed_somewhere : (ss : List Screen) (k : ℕ) (s : Screen) → slice_get ss k ≡ Some s → lists q s ≡ true → list_any (asks q) (flat_map (λ s. s.items) ss) ≡ true
  listed_somewhere [] k s at h = absurd (none_there k at)
    where
      none_there : (k : ℕ) → slice_get [] k ≡ Some s → ⊥
      none_there zero e = cc e
      none_there (suc k) e = cc e
  listed_somewhere (t ∷ ss) zero s at h = let same : t ≡ s = cc at in any_left (asks q) t.items (flat_map (λ s. s.items) ss) (ap (lists q) same ∙ h)
  listed_somewhere (t ∷ ss) (suc k) s at h = any_right (asks q) t.items (flat_map (λ s. s.items) ss) (listed_somewhere ss k s at h)

  -- where no item stands twice, a screen that lists the question is the first that does
  pub only_listing : (ss : List Screen) → AllPairs (λ i j. i ≢ j) (flat_map (λ s. s.items) ss) → (n k : ℕ) (s : Screen) → slice_get ss k ≡ Some s → lists q s ≡ true → unwrap_or (position_from (lists q) n ss) 0 ≡ n + k
  only_listing [] differ n k s at h = absurd (none_there k at)
    where
      none_there : (k : ℕ) → slice_get [] k ≡ Some s → ⊥
      none_there zero e = cc e
      none_there (suc k) e = cc e
  only_listing (t ∷ ss) differ n zero s at h = let same : t ≡ s = cc at in ap (λ b. unwrap_or (cond b (Some n) (position_from (lists q) (n + 1) ss)) 0) (ap (lists q) same ∙ h) ∙ omega arith
  only_listing (t ∷ ss) differ n (suc k) s at h = go (lists q t) refl (only_listing ss (pairs_right (λ i j. i ≢ j) t.items (flat_map (λ s. s.items) ss) differ) (n + 1) k s at h)
    where
      go : (b : Bool) → lists q t ≡ b → unwrap_or (position_from (lists q) (n + 1) ss) 0 ≡ n + 1 + k → unwrap_or (cond b (Some n) (position_from (lists q) (n + 1) ss)) 0 ≡ n + suc k
      go true e rest = absurd (both_sides t.items (flat_map (λ s. s.items) ss) differ e (listed_somewhere ss k s at h))
      go false e rest = rest ∙ omega arith
