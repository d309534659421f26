-- Which lists the live instances depend on.
use Rattle.std.specs.Prelude.{◌≡◌, ◌<◌, ◌+◌, ◌==◌, ℕ, zero, suc, Bool, true, false, cond, ◌||◌, List, [], ◌∷◌, ◌++◌, map, filter, flat_map, unwrap_or, is_some, Option, None, Some, refl}
use denote.Ref.{Bor}
use Rattle.std.specs.List.{list_any, AllByRecursion}
use Rattle.std.specs.Option.{option_copied}
use Rattle.std.proofs.Common.{arith, ap, sym, subst, ◌∙◌}
use Rattle.std.proofs.lemmas.List.Folds.{list_any-append}
use Rattle.std.proofs.lemmas.Bool.{or_right, or_left}
use Rattle.opa_io.proofs.Lists.{each_weaker}
use Rattle.opa_io.proofs.Bools.{or_more}
use Rattle.opa_cells.specs.declared.instance.InstanceId.{InstanceId}
use Rattle.opa_cells.specs.Instances.{is_same, global, named}
use Rattle.opa_case.specs.Shapes.{Shape}
use Rattle.opa_case.specs.Live.{Lists, Population, members, held, live_upto, is_live, container_of}
use Rattle.opa_cells.proofs.Orders.{same_itself}

or_later : (g a b : Bool) → (g || b) ≡ true → (g || (a || b)) ≡ true
or_later true a b e = refl
or_later false a b e = or_right a b e

pub live_append : (xs ys : Population) (i : InstanceId) → is_live xs i ≡ true → is_live (xs ++ ys) i ≡ true
live_append xs ys i h = ap (λ b. is_same i global || b) (list_any-append (λ p. is_same i p.0) xs ys) ∙ or_more (is_same i global) _ _ h

live_push : (x : InstanceId × InstanceId) (xs : Population) (i : InstanceId) → is_live xs i ≡ true → is_live (x ∷ xs) i ≡ true
live_push x xs i h = or_later (is_same i global) (is_same i x.0) (list_any (λ p. is_same i p.0) xs) h

abbrev pub AllLive : Population → Population → Type 0
AllLive whole xs = AllByRecursion (λ (p : InstanceId × InstanceId). is_live whole p.0 ≡ true) xs

pub all_live : (xs : Population) → AllLive xs xs
all_live [] = tt
all_live (x ∷ xs) = (or_right (is_same x.0 global) _ (or_left (is_same x.0 x.0) _ (same_itself x.0)), each_weaker _ _ (λ p h. live_push x xs p.0 h) xs (all_live xs))

named_live : (whole : Population) (e : ℕ) (xs : Population) → AllLive whole xs → AllByRecursion (λ c. is_live whole c ≡ true) (map (λ p. p.0) (filter (λ p. p.0.entity.0 == e) xs))
named_live whole e [] h = tt
named_live whole e (x ∷ xs) h =
    elim (x.0.entity.0 == e) as (λ b. AllByRecursion (λ c. is_live whole c ≡ true) (map (λ p. p.0) (cond b (x ∷ filter (λ p. p.0.entity.0 == e) xs) (filter (λ p. p.0.entity.0 == e) xs)))) [
      | true ↦ (h.0, named_live whole e xs h.1)
      | false ↦ named_live whole e xs h.1
    ]

pub members_live : (whole : Population) (e : ℕ) (xs : Population) → AllLive whole xs → AllByRecursion (λ c. is_live whole c ≡ true) (members e xs)
members_live whole e xs h =
    elim (e == 0) as (λ b. AllByRecursion (λ c. is_live whole c ≡ true) (cond b (global ∷ []) (map (λ p. p.0) (filter (λ p. p.0.entity.0 == e) xs)))) [
      | true ↦ (or_left (is_same global global) (list_any (λ p. is_same global p.0) whole) (same_itself global), tt)
      | false ↦ named_live whole e xs h
    ]

flat_same : {A B : Type 0} (f g : A → List B) (P : A → Type 0) → ((x : A) → P x → f x ≡ g x) → (xs : List A) → AllByRecursion P xs → flat_map f xs ≡ flat_map g xs
flat_same f g P h [] all = refl
flat_same f g P h (x ∷ xs) all = ap (λ y. y ++ flat_map f xs) (h x all.0) ∙ ap (λ y. g x ++ y) (flat_same f g P h xs all.1)

module _ (s : Shape) (l : Lists) where
  live_one_later : (n : ℕ) (i : InstanceId) → is_live (live_upto s l n) i ≡ true → is_live (live_upto s l (suc n)) i ≡ true
  unfolding live_upto
  live_one_later n i h = live_append (live_upto s l n) _ i h

  pub live_later : (k n m : ℕ) → k + n ≡ m → (i : InstanceId) → is_live (live_upto s l n) i ≡ true → is_live (live_upto s l m) i ≡ true
  live_later zero n m e i h = subst (λ j. is_live (live_upto s l j) i ≡ true) (omega (arith, e)) h
  live_later (suc k) n m e i h = subst (λ j. is_live (live_upto s l j) i ≡ true) (omega (arith, e)) (live_one_later (k + n) i (live_later k n (k + n) refl i h))

  -- lists that agree at live containers make the same instances live
  pub same_live : (l' : Lists) (m : ℕ) → ((e : ℕ) (c : InstanceId) → e < m → is_live (live_upto s l m) c ≡ true → l (s.contained (suc e)) c ≡ l' (s.contained (suc e)) c) → (k n : ℕ) → k + n ≡ m → live_upto s l n ≡ live_upto s l' n
  unfolding live_upto
  same_live l' m h k zero e = refl
  same_live l' m h k (suc n) e =
      let before = same_live l' m h (suc k) n (omega (arith, e)) in
      let lives : AllLive (live_upto s l m) (live_upto s l n) = each_weaker _ _ (λ p g. live_later (suc k) n m (omega (arith, e)) p.0 g) (live_upto s l n) (all_live (live_upto s l n)) in
      ap (λ x. live_upto s l n ++ x) (flat_same (held s l (suc n)) (held s l' (suc n)) _ (λ c g. ap (λ o. map (λ x. (named (suc n) x, c)) (unwrap_or o [])) (h n c (omega (arith, e)) g)) (members (s.parent (suc n)) (live_upto s l n)) (members_live (live_upto s l m) (s.parent (suc n)) (live_upto s l n) lives))
      ∙ ap (λ x. x ++ flat_map (held s l' (suc n)) (members (s.parent (suc n)) x)) before

pub some_in : (i : InstanceId) (xs : Population) → is_some (container_of xs i) ≡ list_any (λ p. is_same i p.0) xs
some_in i [] = refl
some_in i (x ∷ xs) = elim (is_same i x.0) as (λ b. is_some (cond b (Some x.1) (container_of xs i)) ≡ (b || list_any (λ p. is_same i p.0) xs)) [ true ↦ refl | false ↦ some_in i xs ]

pub live_by_container : (i : InstanceId) (xs : Population) → is_same i global ≡ false → is_some (container_of xs i) ≡ is_live xs i
live_by_container i xs e = some_in i xs ∙ ap (λ b. b || list_any (λ p. is_same i p.0) xs) (sym e)

pub live_none : (s : Shape) (l : Lists) → [] ≡ live_upto s l 0
unfolding live_upto
live_none s l = refl

live_step : (s : Shape) (l : Lists) (k : ℕ) → live_upto s l k ++ flat_map (held s l (suc k)) (members (s.parent (suc k)) (live_upto s l k)) ≡ live_upto s l (suc k)
unfolding live_upto
live_step s l k = refl

pub live_next : (s : Shape) (l : Lists) (n : ℕ) → live_upto s l n ++ flat_map (held s l (n + 1)) (members (s.parent (n + 1)) (live_upto s l n)) ≡ live_upto s l (n + 1)
live_next s l n = let same : suc n ≡ n + 1 = omega arith in subst (λ m. live_upto s l n ++ flat_map (held s l m) (members (s.parent m) (live_upto s l n)) ≡ live_upto s l m) same (live_step s l n)

pub some_copied : {X : Type 0} (o : Option (Bor X)) → is_some (option_copied o) ≡ is_some o
some_copied None = refl
some_copied (Some x) = refl
