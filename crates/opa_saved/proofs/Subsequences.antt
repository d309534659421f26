-- Fewer known lists make fewer instances live, in the same order.
use Rattle.std.proofs.Common.{◌≡◌, ◌≤◌, ◌-◌, ◌==◌, ℕ, zero, suc, Bool, true, false, cond, List, [], ◌∷◌, ◌++◌, length, map, arith, refl, sym, ap, subst, ◌∙◌}
use Rattle.std.specs.Prelude.{Option, None, Some, filter, flat_map, nat_lt, ◌||◌}
use Rattle.std.proofs.lemmas.Bool.{or_parts, ltb-false, le-ltb}
use Rattle.opa_model.specs.declared.ids.RelId.{RelId}
use Rattle.opa_cells.specs.declared.instance.InstanceId.{InstanceId}
use Rattle.opa_cells.specs.Instances.{global}
use Rattle.opa_case.specs.Shapes.{Shape}
use Rattle.opa_case.specs.Live.{Names, Lists, Population, members, in_container, held, held_names, live_upto, live_of}
use Rattle.opa_case.specs.Steps.{has_rule, slots_upto, slots, is_full}

-- the first list is the second without some items
pub data Sub {A : Type 0} : List A → List A → Type 0 where
  none : (ys : List A) → Sub [] ys
  keep : (x : A) (xs ys : List A) → Sub xs ys → Sub (x ∷ xs) (x ∷ ys)
  skip : (y : A) (xs ys : List A) → Sub xs ys → Sub xs (y ∷ ys)

module _ {A : Type 0} where
  pub sub_all : (xs : List A) → Sub xs xs
  sub_all [] = none []
  sub_all (x ∷ xs) = keep x xs xs (sub_all xs)

  sub_behind : (zs xs ys : List A) → Sub xs ys → Sub xs (zs ++ ys)
  sub_behind [] xs ys h = h
  sub_behind (z ∷ zs) xs ys h = skip z xs (zs ++ ys) (sub_behind zs xs ys h)

  sub_append : (ws zs xs ys : List A) → Sub ws zs → Sub xs ys → Sub (ws ++ xs) (zs ++ ys)
  sub_append _ _ xs ys (none zs) h = sub_behind zs xs ys h
  sub_append _ _ xs ys (keep w ws zs g) h = keep w (ws ++ xs) (zs ++ ys) (sub_append ws zs xs ys g h)
  sub_append _ _ xs ys (skip z ws zs g) h = skip z (ws ++ xs) (zs ++ ys) (sub_append ws zs xs ys g h)

  pub sub_length : (xs ys : List A) → Sub xs ys → length xs ≤ length ys
  sub_length _ _ (none ys) = omega arith
  sub_length _ _ (keep x xs ys h) = omega (arith, sub_length xs ys h)
  sub_length _ _ (skip y xs ys h) = omega (arith, sub_length xs ys h)

  sub_filter : (p : A → Bool) (xs ys : List A) → Sub xs ys → Sub (filter p xs) (filter p ys)
  sub_filter p _ _ (none ys) = none (filter p ys)
  sub_filter p _ _ (keep x xs ys h) = elim (p x) as (λ b. Sub (cond b (x ∷ filter p xs) (filter p xs)) (cond b (x ∷ filter p ys) (filter p ys))) [
    | true ↦ keep x (filter p xs) (filter p ys) (sub_filter p xs ys h)
    | false ↦ sub_filter p xs ys h
  ]
  sub_filter p _ _ (skip y xs ys h) = elim (p y) as (λ b. Sub (filter p xs) (cond b (y ∷ filter p ys) (filter p ys))) [
    | true ↦ skip y (filter p xs) (filter p ys) (sub_filter p xs ys h)
    | false ↦ sub_filter p xs ys h
  ]

module _ {A B : Type 0} where
  sub_map : (f : A → B) (xs ys : List A) → Sub xs ys → Sub (map f xs) (map f ys)
  sub_map f _ _ (none ys) = none (map f ys)
  sub_map f _ _ (keep x xs ys h) = keep (f x) (map f xs) (map f ys) (sub_map f xs ys h)
  sub_map f _ _ (skip y xs ys h) = skip (f y) (map f xs) (map f ys) (sub_map f xs ys h)

  sub_flat : (f g : A → List B) → ((x : A) → Sub (f x) (g x)) → (xs ys : List A) → Sub xs ys → Sub (flat_map f xs) (flat_map g ys)
  sub_flat f g each _ _ (none ys) = none (flat_map g ys)
  sub_flat f g each _ _ (keep x xs ys h) = sub_append (f x) (g x) (flat_map f xs) (flat_map g ys) (each x) (sub_flat f g each xs ys h)
  sub_flat f g each _ _ (skip y xs ys h) = sub_behind (g y) (flat_map f xs) (flat_map g ys) (sub_flat f g each xs ys h)

pub sub_members : (e : ℕ) (xs ys : Population) → Sub xs ys → Sub (members e xs) (members e ys)
sub_members e xs ys h = elim (e == 0) as (λ b. Sub (cond b (global ∷ []) (map (λ p. p.0) (filter (λ p. p.0.entity.0 == e) xs))) (cond b (global ∷ []) (map (λ p. p.0) (filter (λ p. p.0.entity.0 == e) ys)))) [
  | true ↦ sub_all (global ∷ [])
  | false ↦ sub_map (λ (p : InstanceId × InstanceId). p.0) _ _ (sub_filter (λ (p : InstanceId × InstanceId). p.0.entity.0 == e) xs ys h)
]

-- each list that is known in l is known in l' too
abbrev pub KnowsMore : Lists → Lists → Type 0
KnowsMore l l' = (r : RelId) (i : InstanceId) (names : Names) → l r i ≡ Some names → l' r i ≡ Some names

module _ (s : Shape) (l l' : Lists) (more : KnowsMore l l') where
  sub_held : (e : ℕ) (c : InstanceId) → Sub (held s l e c) (held s l' e c)
  sub_held e c = go (l (s.contained e) c) refl
    where
      go : (o : Option Names) → l (s.contained e) c ≡ o → Sub (held_names e c o) (held s l' e c)
      go None is = none (held s l' e c)
      go (Some ns) is = subst (λ o. Sub (in_container e c ns) (held_names e c o)) (sym (more (s.contained e) c ns is)) (sub_all (in_container e c ns))

  sub_upto : (n : ℕ) → Sub (live_upto s l n) (live_upto s l' n)
  unfolding live_upto
  sub_upto zero = none []
  sub_upto (suc n) =
      sub_append (live_upto s l n) (live_upto s l' n) _ _ (sub_upto n)
      (sub_flat (held s l (suc n)) (held s l' (suc n)) (sub_held (suc n)) (members (s.parent (suc n)) (live_upto s l n)) (members (s.parent (suc n)) (live_upto s l' n)) (sub_members (s.parent (suc n)) (live_upto s l n) (live_upto s l' n) (sub_upto n)))

  pub sub_live : Sub (live_of s l) (live_of s l')
  sub_live = sub_upto (s.count - 1)

module _ (s : Shape) (ruled : List Bool) (xs ys : Population) (h : Sub xs ys) where
  few_slots : (n : ℕ) → slots_upto s ruled xs n ≤ slots_upto s ruled ys n
  unfolding slots_upto
  few_slots zero = omega arith
  few_slots (suc n) = omega (arith, few_slots n, one (has_rule ruled (record { 0 = n })))
    where
      one : (b : Bool) → cond b (length (members (s.attribute (record { 0 = n })).entity.0 xs)) 0 ≤ cond b (length (members (s.attribute (record { 0 = n })).entity.0 ys)) 0
      one true = sub_length _ _ (sub_members (s.attribute (record { 0 = n })).entity.0 xs ys h)
      one false = omega arith

  -- where all fit, fewer do
  pub fewer_fit : is_full s ruled ys ≡ false → is_full s ruled xs ≡ false
  fewer_fit fine =
      let p = or_parts (nat_lt 20000 (length ys)) (nat_lt 2000000 (slots s ruled ys)) fine in
      let a : nat_lt 20000 (length xs) ≡ false = le-ltb 20000 (length xs) (omega (arith, sub_length xs ys h, ltb-false 20000 (length ys) p.0)) in
      let b : nat_lt 2000000 (slots s ruled xs) ≡ false = le-ltb 2000000 (slots s ruled xs) (omega (arith, few_slots s.attributes, ltb-false 2000000 (slots s ruled ys) p.1)) in
      ap (λ x. x || nat_lt 2000000 (slots s ruled xs)) a ∙ b
