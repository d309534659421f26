-- One more rank is found.
use Rattle.std.proofs.Common.{◌≡◌, ◌≢◌, ◌∙◌, ◌+◌, ◌<◌, ◌≤◌, max, ℕ, zero, suc, arith, Bool, true, false, List, [], ◌∷◌, length, map, refl, sym, ap, subst}
use Rattle.std.specs.Prelude.{Option, None, Some, slice_get, slice_set, ◌==◌}
use Rattle.std.specs.Option.{option_map}
use Rattle.std.proofs.lemmas.Option.{slice_get_within}
use Rattle.opa_model.specs.declared.ids.AttrId.{AttrId}
use Rattle.opa_rulebase.specs.Checking.Found.{or_zero, rank_found, higher, highest_found, found_by, found_count, AreFound}
use Rattle.opa_rulebase.proofs.checking.FoundLaws.{found_grows, highest_low}
use Rattle.opa_tree.proofs.Setting.{set_same, set_other, set_length, same_place, other_place}

pub higher-none : (x : Option ℕ) → higher x (Some 0) ≡ x
higher-none None = refl
higher-none (Some n) = ap Some (omega arith)

pub none-higher : (x : Option ℕ) → higher (Some 0) x ≡ x
none-higher None = refl
none-higher (Some n) = ap Some (omega arith)

pub higher-assoc : (x y z : Option ℕ) → higher (higher x y) z ≡ higher x (higher y z)
higher-assoc None y z = refl
higher-assoc (Some l) None z = refl
higher-assoc (Some l) (Some m) None = refl
higher-assoc (Some l) (Some m) (Some n) = ap Some (omega arith)

-- fewer ranks are found than there are attributes, where one isn't found
pub some_left : (ranks : List (Option ℕ)) (p : ℕ) → slice_get ranks p ≡ Some None → found_count ranks < length ranks
some_left [] p is = cc
some_left (None ∷ ranks) zero is = let most : found_count ranks ≤ length ranks = at_most ranks in omega (arith, most)
  where
    at_most : (xs : List (Option ℕ)) → found_count xs ≤ length xs
    at_most [] = omega arith
    at_most (None ∷ xs) = let rest : found_count xs ≤ length xs = at_most xs in omega (arith, rest)
    at_most (Some n ∷ xs) = let rest : found_count xs ≤ length xs = at_most xs in omega (arith, rest)
some_left (Some n ∷ ranks) zero is = cc
some_left (None ∷ ranks) (suc p) is = let rest : found_count ranks < length ranks = some_left ranks p is in omega (arith, rest)
some_left (Some n ∷ ranks) (suc p) is = let rest : found_count ranks < length ranks = some_left ranks p is in omega (arith, rest)

one_counted : (ranks : List (Option ℕ)) (p n : ℕ) → slice_get ranks p ≡ Some None → found_count (slice_set ranks p (Some n)) ≡ found_count ranks + 1
one_counted [] p n is = cc
one_counted (None ∷ ranks) zero n is = omega arith
one_counted (Some m ∷ ranks) zero n is = cc
one_counted (None ∷ ranks) (suc p) n is = one_counted ranks p n is
one_counted (Some m ∷ ranks) (suc p) n is = let rest : found_count (slice_set ranks p (Some n)) ≡ found_count ranks + 1 = one_counted ranks p n is in omega (arith, rest)

module _ (uses : List (Option (List AttrId))) (ranks : List (Option ℕ)) (taken p n : ℕ) (u : Option (List AttrId)) (found : AreFound uses ranks taken)
    (none : slice_get ranks p ≡ Some None) (has : slice_get uses p ≡ Some u) (is : found_by ranks u ≡ Some n) where
  grows : (b : AttrId) (k : ℕ) → rank_found ranks b ≡ Some k → rank_found (slice_set ranks p (Some n)) b ≡ Some k
  grows b k at = by (p == b.0) refl
    where
      by : (t : Bool) → (p == b.0) ≡ t → rank_found (slice_set ranks p (Some n)) b ≡ Some k
      by true e = let bad : None ≡ Some k = sym (ap or_zero (subst (λ (j : ℕ). slice_get ranks j ≡ Some None) (sym (same_place p b.0 e)) none)) ∙ at in cc
      by false e = ap or_zero (set_other ranks p b.0 (Some n) (other_place p b.0 e)) ∙ at

  low_ones : (b : AttrId) (k : ℕ) → rank_found ranks b ≡ Some k → k ≤ taken
  low_ones b k at = by (slice_get ranks b.0) refl at
    where
      by : (o : Option (Option ℕ)) → slice_get ranks b.0 ≡ o → or_zero o ≡ Some k → k ≤ taken
      by None e h = let zero_is : 0 ≡ k = cc in omega (arith, zero_is)
      by (Some x) e h = found.low b k (e ∙ ap Some h)

  own_low : (v : Option (List AttrId)) → found_by ranks v ≡ Some n → n ≤ taken + 1
  own_low None h = let zero_is : 0 ≡ n = cc in omega (arith, zero_is)
  own_low (Some ms) h = by (highest_found (map (rank_found ranks) ms)) refl h
    where
      by : (y : Option ℕ) → highest_found (map (rank_found ranks) ms) ≡ y → option_map (λ k. 1 + k) y ≡ Some n → n ≤ taken + 1
      by None e h = cc
      by (Some k) e h = let top : 1 + k ≡ n = cc in let low : k ≤ taken = highest_low (rank_found ranks) ms k taken low_ones e in omega (arith, top, low)

  set_at : slice_get (slice_set ranks p (Some n)) p ≡ Some (Some n)
  set_at = set_same ranks p (Some n) (slice_get_within ranks p None none)

  pub take_one : AreFound uses (slice_set ranks p (Some n)) (taken + 1)
  take_one = record {
    for_each = set_length ranks p (Some n) ∙ found.for_each;
    counted = one_counted ranks p n none ∙ ap (λ k. k + 1) found.counted;
    right = λ a m v at used. right_by a m v at used (p == a.0) refl;
    low = λ a m at. low_by a m at (p == a.0) refl;
  }
    where
      right_by : (a : AttrId) (m : ℕ) (v : Option (List AttrId)) → slice_get (slice_set ranks p (Some n)) a.0 ≡ Some (Some m) → slice_get uses a.0 ≡ Some v → (t : Bool) → (p == a.0) ≡ t → found_by (slice_set ranks p (Some n)) v ≡ Some m
      right_by a m v at used true e =
          let here : slice_get (slice_set ranks p (Some n)) p ≡ Some (Some m) = subst (λ (j : ℕ). slice_get (slice_set ranks p (Some n)) j ≡ Some (Some m)) (same_place p a.0 e) at in
          let whole : Some (Some n) ≡ Some (Some m) = sym set_at ∙ here in
          let same : n ≡ m = cc in
          let both : Some u ≡ Some v = sym has ∙ subst (λ (j : ℕ). slice_get uses j ≡ Some v) (same_place p a.0 e) used in
          let own : u ≡ v = cc in
          subst (λ w. found_by (slice_set ranks p (Some n)) w ≡ Some m) own (subst (λ (k : ℕ). found_by (slice_set ranks p (Some n)) u ≡ Some k) same (found_grows ranks (slice_set ranks p (Some n)) u n grows is))
      right_by a m v at used false e =
          found_grows ranks (slice_set ranks p (Some n)) v m grows (found.right a m v (sym (set_other ranks p a.0 (Some n) (other_place p a.0 e)) ∙ at) used)

      low_by : (a : AttrId) (m : ℕ) → slice_get (slice_set ranks p (Some n)) a.0 ≡ Some (Some m) → (t : Bool) → (p == a.0) ≡ t → m ≤ taken + 1
      low_by a m at true e =
          let here : slice_get (slice_set ranks p (Some n)) p ≡ Some (Some m) = subst (λ (j : ℕ). slice_get (slice_set ranks p (Some n)) j ≡ Some (Some m)) (same_place p a.0 e) at in
          let whole : Some (Some n) ≡ Some (Some m) = sym set_at ∙ here in
          let same : n ≡ m = cc in let own : n ≤ taken + 1 = own_low u is in omega (arith, same, own)
      low_by a m at false e = let old : m ≤ taken = found.low a m (sym (set_other ranks p a.0 (Some n) (other_place p a.0 e)) ∙ at) in omega (arith, old)

-- no rank is found yet
none_counted : (ranks : List (Option ℕ)) → ((n : ℕ) → n < length ranks → slice_get ranks n ≡ Some None) → found_count ranks ≡ 0
none_counted [] each = refl
none_counted (None ∷ ranks) each = none_counted ranks (λ n lt. each (suc n) (omega (arith, lt)))
none_counted (Some m ∷ ranks) each = let first : Some (Some m) ≡ Some None = each 0 (omega arith) in cc

pub none_found : (uses : List (Option (List AttrId))) (ranks : List (Option ℕ)) → length ranks ≡ length uses → ((n : ℕ) → n < length uses → slice_get ranks n ≡ Some None) → AreFound uses ranks 0
none_found uses ranks same each = record {
  for_each = same;
  counted = none_counted ranks (λ n lt. each n (omega (arith, lt, same)));
  right = λ a n u at used. absurd (never a n at);
  low = λ a n at. absurd (never a n at);
}
  where
    never : (a : AttrId) (n : ℕ) → slice_get ranks a.0 ≡ Some (Some n) → ⊥
    never a n at = let within : a.0 < length ranks = slice_get_within ranks a.0 (Some n) at in let none : slice_get ranks a.0 ≡ Some None = each a.0 (omega (arith, within, same)) in let both : Some (Some n) ≡ Some None = sym at ∙ none in cc

-- the ranks that are found are no more than the attributes
pub count_most : (ranks : List (Option ℕ)) → found_count ranks ≤ length ranks
count_most [] = omega arith
count_most (None ∷ ranks) = let rest : found_count ranks ≤ length ranks = count_most ranks in omega (arith, rest)
count_most (Some n ∷ ranks) = let rest : found_count ranks ≤ length ranks = count_most ranks in omega (arith, rest)

pub low_found : (uses : List (Option (List AttrId))) (ranks : List (Option ℕ)) (taken : ℕ) → AreFound uses ranks taken → (b : AttrId) (k : ℕ) → rank_found ranks b ≡ Some k → k ≤ taken
low_found uses ranks taken found b k at = by (slice_get ranks b.0) refl at
  where
    by : (o : Option (Option ℕ)) → slice_get ranks b.0 ≡ o → or_zero o ≡ Some k → k ≤ taken
    by None e h = let zero_is : 0 ≡ k = cc in omega (arith, zero_is)
    by (Some x) e h = found.low b k (e ∙ ap Some h)

pub ruleset highers = (higher-none, none-higher, higher-assoc)
