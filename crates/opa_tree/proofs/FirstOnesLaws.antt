-- Things in their order, each once.
use Rattle.std.proofs.Common.{◌≡◌, ◌≢◌, ◌↔◌, ◌⊎◌, Bool, true, false, not, cond, ◌||◌, List, [], ◌∷◌, ◌++◌, AllPairs, Contains, inl, inr, refl, sym, ap, ◌∙◌, subst, arith}
use Rattle.std.specs.Prelude.{filter, if◌then◌else◌}
use Rattle.std.specs.List.{list_any}
use Rattle.std.proofs.lemmas.Bool.{false≢true}
use Rattle.std.proofs.lemmas.List.{append-nil}
use Rattle.std.proofs.lemmas.List.Elements.{filter-append, filter_passes, All-weaker}
use Rattle.std.proofs.lemmas.List.Kept.{AllPairs-cons, AllPairs-filter}
use Rattle.opa_tree.specs.FirstOnes.{first_ones, with_new}
use Rattle.opa_tree.proofs.Members.{contains_head, contains_tail, contains_cases}

module _ {X : Type 0} (same : X → X → Bool) (tells : (x y : X) → (same x y ≡ true) ↔ (x ≡ y)) where
  abbrev other : X → X → Bool
  other x y = not (same x y)

  turned : (x y : X) → same x y ≡ true → same y x ≡ true
  turned x y e = (tells y x).1 (sym ((tells x y).0 e))

  -- what differs from a thing differs from what is the same as it
  turned_apart : (x y : X) (b : Bool) → same y x ≡ b → same x y ≡ false → same y x ≡ false
  turned_apart x y true e n = cc (turned y x e, n)
  turned_apart x y false e n = e

  apart : (x a y : X) (b : Bool) → same a y ≡ b → same x a ≡ false → same x y ≡ true → same a y ≡ false
  apart x a y true e n is = let through : x ≡ a = (tells x y).0 is ∙ sym ((tells a y).0 e) in cc ((tells x a).1 through, n)
  apart x a y false e n is = e

  kept_at : (x a y : X) (ys : List X) → same x a ≡ false → (b : Bool) → same x y ≡ b → list_any (same a) (filter (other x) ys) ≡ list_any (same a) ys → list_any (same a) (filter (other x) (y ∷ ys)) ≡ (same a y || list_any (same a) ys)
  kept_at x a y ys n true e h =
      ap (λ t. list_any (same a) (cond (not t) (y ∷ filter (other x) ys) (filter (other x) ys))) e ∙ h ∙ ap (λ t. t || list_any (same a) ys) (sym (apart x a y (same a y) refl n e))
  kept_at x a y ys n false e h =
      ap (λ t. list_any (same a) (cond (not t) (y ∷ filter (other x) ys) (filter (other x) ys))) e ∙ ap (λ t. same a y || t) h

  -- a thing that differs from another stays among those that differ from it
  any_kept : (x a : X) (ys : List X) → same x a ≡ false → list_any (same a) (filter (other x) ys) ≡ list_any (same a) ys
  any_kept x a [] n = refl
  any_kept x a (y ∷ ys) n = kept_at x a y ys n (same x y) refl (any_kept x a ys n)

  filter_push : (x a : X) (ys : List X) (b : Bool) → same x a ≡ b → filter (other x) (ys ++ a ∷ []) ≡ filter (other x) ys ++ cond (not b) (a ∷ []) []
  filter_push x a ys b e = filter-append (other x) ys (a ∷ []) ∙ ap (λ t. filter (other x) ys ++ cond (not t) (a ∷ []) []) e

  push_at : (x a : X) (ys : List X) (b : Bool) → same x a ≡ b → (c : Bool) → list_any (same a) ys ≡ c
      → x ∷ filter (other x) (if list_any (same a) ys then ys else ys ++ a ∷ []) ≡ (if same a x || list_any (same a) (filter (other x) ys) then x ∷ filter (other x) ys else (x ∷ filter (other x) ys) ++ a ∷ [])
  push_at x a ys true e true f =
      ap (λ t. x ∷ filter (other x) (if t then ys else ys ++ a ∷ [])) f
      ∙ ap (λ t. if t || list_any (same a) (filter (other x) ys) then x ∷ filter (other x) ys else (x ∷ filter (other x) ys) ++ a ∷ []) (sym (turned x a e))
  push_at x a ys true e false f =
      ap (λ t. x ∷ filter (other x) (if t then ys else ys ++ a ∷ [])) f
      ∙ ap (λ zs. x ∷ zs) (filter_push x a ys true e ∙ append-nil (filter (other x) ys))
      ∙ ap (λ t. if t || list_any (same a) (filter (other x) ys) then x ∷ filter (other x) ys else (x ∷ filter (other x) ys) ++ a ∷ []) (sym (turned x a e))
  push_at x a ys false e true f =
      ap (λ t. x ∷ filter (other x) (if t then ys else ys ++ a ∷ [])) f
      ∙ ap (λ t. if t then x ∷ filter (other x) ys else (x ∷ filter (other x) ys) ++ a ∷ []) (sym (ap (λ t. t || list_any (same a) (filter (other x) ys)) (turned_apart x a (same a x) refl e) ∙ any_kept x a ys e ∙ f))
  push_at x a ys false e false f =
      ap (λ t. x ∷ filter (other x) (if t then ys else ys ++ a ∷ [])) f
      ∙ ap (λ zs. x ∷ zs) (filter_push x a ys false e)
      ∙ ap (λ t. if t then x ∷ filter (other x) ys else (x ∷ filter (other x) ys) ++ a ∷ []) (sym (ap (λ t. t || list_any (same a) (filter (other x) ys)) (turned_apart x a (same a x) refl e) ∙ any_kept x a ys e ∙ f))

  -- one more thing
  pub first_ones-push : (xs : List X) (a : X) → first_ones same (xs ++ a ∷ []) ≡ with_new same (first_ones same xs) a
  first_ones-push [] a = refl
  first_ones-push (x ∷ xs) a = ap (λ ys. x ∷ filter (other x) ys) (first_ones-push xs a) ∙ push_at x a (first_ones same xs) (same x a) refl (list_any (same a) (first_ones same xs)) refl

  passing : (x y : X) (b : Bool) → same x y ≡ b → other x y ≡ true → x ≢ y
  passing x y b is pass e = let yes : same x y ≡ true = (tells x y).1 e in cc (ap not yes, pass)

  -- the things differ
  pub first_ones-differ : (xs : List X) → AllPairs (λ x y. x ≢ y) (first_ones same xs)
  first_ones-differ [] = λ i j d lt within. absurd (omega arith)
  first_ones-differ (x ∷ xs) =
      AllPairs-cons (λ y z. y ≢ z) x (filter (other x) (first_ones same xs))
      (All-weaker (λ y. other x y ≡ true) (λ y. x ≢ y) (λ y pass. passing x y (same x y) refl pass) _ (filter_passes (other x) (first_ones same xs)))
      (AllPairs-filter (λ y z. y ≢ z) (other x) (first_ones same xs) (first_ones-differ xs))

  filter_out : (p : X → Bool) (ys : List X) (a : X) → Contains (filter p ys) a → Contains ys a
  filter_out p [] a h = h
  filter_out p (y ∷ ys) a h = out_at (p y) p y ys a h (filter_out p ys a)
    where
      out_at : (b : Bool) (p : X → Bool) (y : X) (ys : List X) (a : X) → Contains (cond b (y ∷ filter p ys) (filter p ys)) a → (Contains (filter p ys) a → Contains ys a) → Contains (y ∷ ys) a
      out_at true p y ys a h more = head_or (contains_cases y a (filter p ys) h)
        where
          head_or : (y ≡ a) ⊎ Contains (filter p ys) a → Contains (y ∷ ys) a
          head_or (inl e) = subst (λ (z : X). Contains (y ∷ ys) z) e (contains_head y ys)
          head_or (inr there) = contains_tail y a ys (more there)
      out_at false p y ys a h more = contains_tail y a ys (more h)

  filter_in : (p : X → Bool) (ys : List X) (a : X) → p a ≡ true → Contains ys a → Contains (filter p ys) a
  filter_in p [] a pass h = h
  filter_in p (y ∷ ys) a pass h = in_at (p y) refl (contains_cases y a ys h) (filter_in p ys a pass)
    where
      in_at : (b : Bool) → p y ≡ b → (y ≡ a) ⊎ Contains ys a → (Contains ys a → Contains (filter p ys) a) → Contains (cond (p y) (y ∷ filter p ys) (filter p ys)) a
      in_at true e (inl same_one) more = subst (λ (b : Bool). Contains (cond b (y ∷ filter p ys) (filter p ys)) a) (sym e) (subst (λ (z : X). Contains (y ∷ filter p ys) z) same_one (contains_head y (filter p ys)))
      in_at true e (inr there) more = subst (λ (b : Bool). Contains (cond b (y ∷ filter p ys) (filter p ys)) a) (sym e) (contains_tail y a (filter p ys) (more there))
      in_at false e (inl same_one) more = let no : p a ≡ false = ap p (sym same_one) ∙ e in absurd (false≢true (sym no ∙ pass))
      in_at false e (inr there) more = subst (λ (b : Bool). Contains (cond b (y ∷ filter p ys) (filter p ys)) a) (sym e) (more there)

  -- they are the things of the list
  pub first_ones-out : (xs : List X) (a : X) → Contains (first_ones same xs) a → Contains xs a
  first_ones-out [] a h = h
  first_ones-out (x ∷ xs) a h = go (contains_cases x a (filter (other x) (first_ones same xs)) h) (first_ones-out xs a)
    where
      go : (x ≡ a) ⊎ Contains (filter (other x) (first_ones same xs)) a → (Contains (first_ones same xs) a → Contains xs a) → Contains (x ∷ xs) a
      go (inl e) more = subst (λ (z : X). Contains (x ∷ xs) z) e (contains_head x xs)
      go (inr there) more = contains_tail x a xs (more (filter_out (other x) (first_ones same xs) a there))

  pub first_ones-in : (xs : List X) (a : X) → Contains xs a → Contains (first_ones same xs) a
  first_ones-in [] a h = h
  first_ones-in (x ∷ xs) a h = go (contains_cases x a xs h) (same x a) refl (first_ones-in xs a)
    where
      here : x ≡ a → Contains (x ∷ filter (other x) (first_ones same xs)) a
      here e = subst (λ (z : X). Contains (x ∷ filter (other x) (first_ones same xs)) z) e (contains_head x (filter (other x) (first_ones same xs)))

      go : (x ≡ a) ⊎ Contains xs a → (b : Bool) → same x a ≡ b → (Contains xs a → Contains (first_ones same xs) a) → Contains (x ∷ filter (other x) (first_ones same xs)) a
      go (inl e) b is more = here e
      go (inr there) true is more = here ((tells x a).0 is)
      go (inr there) false is more = contains_tail x a (filter (other x) (first_ones same xs)) (filter_in (other x) (first_ones same xs) a (ap not is) (more there))
