-- Tables of marks.
use Rattle.std.proofs.Common.{◌≡◌, ◌⊎◌, inl, inr, ℕ, zero, suc, ◌+◌, ◌<◌, ◌≤◌, Bool, true, false, ◌||◌, List, [], ◌∷◌, ◌++◌, Some, length, get_or, slice_get, take, replicate, Contains, refl, sym, ◌∙◌, ap, subst, arith}
use Rattle.std.specs.List.{list_any}
use Rattle.std.specs.Prelude.{slice_set}
use Rattle.std.proofs.lemmas.Bool.{cases_lt, or_cases, false≢true}
use Rattle.std.proofs.lemmas.List.{get_or_past, get_or-replicate, get_or-set_same, get_or-set_other, length-replicate, length-set}
use Rattle.std.proofs.lemmas.List.Folds.{list_any_more}
use Rattle.std.proofs.lemmas.Option.{same_Some}
use Rattle.opa_io.proofs.Bools.{or_true, or_false}
use Rattle.opa_model.specs.declared.ids.AttrId.{AttrId}
use Rattle.opa_tree.specs.Mentions.{is_attr}
use Rattle.opa_tree.proofs.Members.{none_in, contains_head, contains_tail, contains_cases}
use Rattle.opa_tree.proofs.MentionLaws.{is_attr-tells}
use Rattle.opa_tree.proofs.Setting.{same_place, other_place}
use Rattle.opa_rules.specs.Reviewing.Marks.{told, AddsMarks}

-- a front with one item more
pub took_more : {X : Type 0} (xs : List X) (n : ℕ) (x : X) → slice_get xs n ≡ Some x → take (n + 1) xs ≡ take n xs ++ x ∷ []
took_more xs n x is = let next : n + 1 ≡ suc n = omega arith in ap (λ k. take k xs) next ∙ go xs n x is
  where
    go : {X : Type 0} (xs : List X) (n : ℕ) (x : X) → slice_get xs n ≡ Some x → take (suc n) xs ≡ take n xs ++ x ∷ []
    go [] n x is = absurd (cc is)
    go (y ∷ xs) zero x is = ap (λ z. z ∷ []) (same_Some y x is)
    go (y ∷ xs) (suc n) x is = ap (λ ys. y ∷ ys) (go xs n x is)

-- ---- one that passes

module _ {X : Type 0} (p : X → Bool) where
  pub any_some : (xs : List X) → list_any p xs ≡ true → (x : X) × (Contains xs x × (p x ≡ true))
  any_some [] h = absurd (false≢true h)
  any_some (x ∷ xs) h = go (or_cases (p x) (list_any p xs) h) (any_some xs)
    where
      go : (p x ≡ true) ⊎ (list_any p xs ≡ true) → (list_any p xs ≡ true → (y : X) × (Contains xs y × (p y ≡ true))) → (y : X) × (Contains (x ∷ xs) y × (p y ≡ true))
      go (inl is) rest = (x, (contains_head x xs, is))
      go (inr h) rest = let r = rest h in (r.0, (contains_tail x r.0 xs r.1.0, r.1.1))

  pub some_any : (xs : List X) (x : X) → Contains xs x → p x ≡ true → list_any p xs ≡ true
  some_any [] x there is = absurd (none_in x there)
  some_any (y ∷ xs) x there is = go (contains_cases y x xs there) (λ k. some_any xs x k is)
    where
      go : (y ≡ x) ⊎ Contains xs x → (Contains xs x → list_any p xs ≡ true) → (p y || list_any p xs) ≡ true
      go (inl e) rest = ap (λ b. b || list_any p xs) (ap p e ∙ is)
      go (inr k) rest = ap (λ b. p y || b) (rest k) ∙ or_true (p y)

pub any_attr : (a : AttrId) (attrs : List AttrId) → list_any (is_attr a) attrs ≡ true → Contains attrs a
any_attr a attrs h = let w = any_some (is_attr a) attrs h in subst (λ (x : AttrId). Contains attrs x) (sym ((is_attr-tells a w.0).0 w.1.1)) w.1.0

pub attr_any : (a : AttrId) (attrs : List AttrId) → Contains attrs a → list_any (is_attr a) attrs ≡ true
attr_any a attrs h = some_any (is_attr a) attrs a h ((is_attr-tells a a).1 refl)

-- ---- what a table tells

pub marked_within : (marks : List Bool) (a : AttrId) → told marks a ≡ true → a.0 < length marks
marked_within marks a h = go (cases_lt a.0 (length marks))
  where
    go : (a.0 < length marks) ⊎ (length marks ≤ a.0) → a.0 < length marks
    go (inl lt) = lt
    go (inr past) = absurd (false≢true (sym (get_or_past marks a.0 false past) ∙ h))

pub none_marked : (n : ℕ) (a : AttrId) → told (replicate n false) a ≡ false
none_marked n a = go (cases_lt a.0 n)
  where
    go : (a.0 < n) ⊎ (n ≤ a.0) → told (replicate n false) a ≡ false
    go (inl lt) = get_or-replicate n a.0 false false lt
    go (inr past) = let long = length-replicate n false in get_or_past (replicate n false) a.0 false (omega (arith, past, long))

-- ---- marks that are added

pub nothing_added : (marks : List Bool) → AddsMarks marks [] marks
nothing_added marks = record { long = refl; told_of = λ a lt. sym (or_false (told marks a)) }

one_put : (old : List Bool) (x a : AttrId) → x.0 < length old → (t : Bool) → is_attr a x ≡ t → told (slice_set old x.0 true) a ≡ (told old a || (t || false))
one_put old x a lt true e = ap (λ k. get_or (slice_set old x.0 true) k false) (sym (same_place a.0 x.0 e)) ∙ get_or-set_same old x.0 true false lt ∙ sym (or_true (told old a))
one_put old x a lt false e = get_or-set_other old x.0 a.0 true false (λ same. other_place a.0 x.0 e (sym same)) ∙ sym (or_false (told old a))

pub put_adds : (old new : List Bool) (x : AttrId) → x.0 < length old → new ≡ slice_set old x.0 true → AddsMarks old (x ∷ []) new
put_adds old new x lt is = record {
  long = ap length is ∙ length-set old x.0 true;
  told_of = λ a within. ap (λ marks. told marks a) is ∙ one_put old x a lt (is_attr a x) refl;
}

past_adds : (old : List Bool) (x a : AttrId) → length old ≤ x.0 → a.0 < length old → (t : Bool) → is_attr a x ≡ t → told old a ≡ (told old a || (t || false))
past_adds old x a past lt true e = let same = same_place a.0 x.0 e in absurd (omega (arith, past, lt, same))
past_adds old x a past lt false e = sym (or_false (told old a))

pub none_to_mark : (old : List Bool) (x : AttrId) → length old ≤ x.0 → AddsMarks old (x ∷ []) old
none_to_mark old x past = record { long = refl; told_of = λ a lt. past_adds old x a past lt (is_attr a x) refl }

joined : (a b c : Bool) → ((a || b) || (c || false)) ≡ (a || (b || c))
joined true b c = refl
joined false true c = refl
joined false false c = or_false c

pub one_more : (attrs : List AttrId) (k : ℕ) (d : AttrId) (old mid new : List Bool) → k < length attrs → AddsMarks old (take k attrs) mid → AddsMarks mid (get_or attrs k d ∷ []) new → AddsMarks old (take (k + 1) attrs) new
one_more attrs k d old mid new lt before after = record {
  long = after.long ∙ before.long;
  told_of = λ a within. let there : a.0 < length mid = subst (λ n. a.0 < n) (sym before.long) within in
      after.told_of a there ∙ ap (λ t. t || (is_attr a (get_or attrs k d) || false)) (before.told_of a within)
      ∙ joined (told old a) (list_any (is_attr a) (take k attrs)) (is_attr a (get_or attrs k d))
      ∙ ap (λ t. told old a || t) (sym (list_any_more (is_attr a) attrs k d lt));
}

module _ (old : List Bool) (attrs : List AttrId) (new : List Bool) (adds : AddsMarks old attrs new) where
  pub stays : (a : AttrId) → told old a ≡ true → told new a ≡ true
  stays a h = adds.told_of a (marked_within old a h) ∙ ap (λ t. t || list_any (is_attr a) attrs) h

  pub added : (a : AttrId) → a.0 < length old → Contains attrs a → told new a ≡ true
  added a lt there = adds.told_of a lt ∙ ap (λ t. told old a || t) (attr_any a attrs there) ∙ or_true (told old a)

  pub came_from : (a : AttrId) → told new a ≡ true → (told old a ≡ true) ⊎ Contains attrs a
  came_from a h = go (or_cases (told old a) (list_any (is_attr a) attrs) (sym (adds.told_of a (subst (λ n. a.0 < n) adds.long (marked_within new a h))) ∙ h))
    where
      go : (told old a ≡ true) ⊎ (list_any (is_attr a) attrs ≡ true) → (told old a ≡ true) ⊎ Contains attrs a
      go (inl before) = inl before
      go (inr here) = inr (any_attr a attrs here)
