-- Which lists Walk depends on.
use Rattle.std.specs.Prelude.{◌≡◌, ◌≤◌, ◌<◌, ◌+◌, ◌-◌, ◌==◌, ℕ, zero, suc, true, false, cond, List, [], ◌∷◌, ◌++◌, Option, None, Some, map, refl}
use Rattle.std.specs.List.{list_any, AllByRecursion}
use Rattle.std.specs.Option.{option_map, option_and_then}
use Rattle.std.proofs.Common.{arith, ap, sym, subst, ◌∙◌, eq-eqb}
use mathlib.Core.Bool.{true≢false}
use Rattle.std.proofs.lemmas.Map.Views.{exact_unsigned_eq}
use Rattle.opa_model.specs.declared.ids.RelId.{RelId}
use Rattle.opa_cells.specs.declared.instance.InstanceId.{InstanceId}
use Rattle.opa_cells.specs.Instances.{is_same, is_text, global, named}
use Rattle.opa_cells.proofs.Orders.{same_itself}
use Rattle.opa_case.specs.Shapes.{Shape, IsShape}
use Rattle.opa_case.specs.Live.{Names, Lists, live_of, is_live, gathered, walk}
use Rattle.opa_case.specs.Steps.{every_upto, with_every, rel}
use Rattle.std.specs.Option.{option_map_or}
use Rattle.std.specs.FinMap.{insert, empty}
use Rattle.std.proofs.lemmas.Option.{same_Some}
use Rattle.std.proofs.lemmas.Bool.{or_right, or_left}
use Rattle.opa_io.proofs.Lists.{each_weaker, each_append}
use Rattle.opa_case.proofs.Stands.{has_live, text_itself}

all_map : {A B : Type 0} (P : B → Type 0) (f : A → B) (xs : List A) → AllByRecursion (λ x. P (f x)) xs → AllByRecursion P (map f xs)
all_map P f [] a = tt
all_map P f (x ∷ xs) a = (a.0, all_map P f xs a.1)

pub each_listed : (ns : Names) → AllByRecursion (λ n. list_any (is_text n) ns ≡ true) ns
each_listed [] = tt
each_listed (n ∷ ns) = (or_left (is_text n n) _ (text_itself n), each_weaker _ _ (λ m h. or_right (is_text m n) _ h) ns (each_listed ns))

map_same : {A B : Type 0} (f g : A → B) (P : A → Type 0) → ((x : A) → P x → f x ≡ g x) → (xs : List A) → AllByRecursion P xs → map f xs ≡ map g xs
map_same f g P h [] a = refl
map_same f g P h (x ∷ xs) a = λ k. h x a.0 k ∷ map_same f g P h xs a.1 k

pub positive : (e : ℕ) → (e == 0) ≡ false → 0 < e
positive zero t = absurd (true≢false t)
positive (suc e) t = omega arith

module _ (s : Shape) (shape : IsShape s) (l : Lists) where
  -- it is live, and of the entity
  abbrev IsOf : ℕ → InstanceId → Type 0
  IsOf e i = (is_live (live_of s l) i ≡ true) × (i.entity.0 ≡ e)

  names_live : (e : ℕ) → 0 < e → e < s.count → (cs : List InstanceId) → AllByRecursion (IsOf (s.parent e)) cs → (names : Names) → gathered (map (l (s.contained e)) cs) ≡ Some names → AllByRecursion (λ n. IsOf e (named e n)) names
  names_live e pos lt [] all names g = subst (AllByRecursion (λ n. IsOf e (named e n))) (same_Some [] names g) tt
  names_live e pos lt (c ∷ cs) all names g = go (l (s.contained e) c) refl (gathered (map (l (s.contained e)) cs)) refl g (λ rest h. names_live e pos lt cs all.1 rest h)
    where
      go : (o : Option Names) → l (s.contained e) c ≡ o → (r : Option Names) → gathered (map (l (s.contained e)) cs) ≡ r → gathered (o ∷ map (l (s.contained e)) cs) ≡ Some names
          → ((rest : Names) → gathered (map (l (s.contained e)) cs) ≡ Some rest → AllByRecursion (λ n. IsOf e (named e n)) rest) → AllByRecursion (λ n. IsOf e (named e n)) names
      go None is r more h later = absurd (cc h)
      go (Some ns) is None more h later = absurd (cc (sym (ap (option_map (λ rest. ns ++ rest)) more) ∙ h))
      go (Some ns) is (Some rest) more h later =
          subst (AllByRecursion (λ n. IsOf e (named e n))) (same_Some (ns ++ rest) names (sym (ap (option_map (λ r. ns ++ r)) more) ∙ h))
          (each_append _ ns rest (each_weaker _ _ (λ n k. (has_live s l shape e n c ns pos lt all.0.0 all.0.1 is k, refl)) ns (each_listed ns)) (later rest more))

  roots : (is : List InstanceId) (e : ℕ) → e ≡ 0 → global ∷ [] ≡ is → AllByRecursion (IsOf e) is
  roots is e zero_is same = subst (AllByRecursion (IsOf e)) same ((or_left (is_same global global) (list_any (λ p. is_same global p.0) (live_of s l)) (same_itself global), sym zero_is), tt)

  step : (n e : ℕ) → 0 < e → s.parent e ≤ n → e < s.count → (is : List InstanceId) → option_and_then (λ cs. option_map (map (named e)) (gathered (map (l (s.contained e)) cs))) (walk s l n (s.parent e)) ≡ Some is
      → ((cs : List InstanceId) → walk s l n (s.parent e) ≡ Some cs → AllByRecursion (IsOf (s.parent e)) cs) → AllByRecursion (IsOf e) is
  step n e pos le lt is g before = go (walk s l n (s.parent e)) refl g
    where
      inner : (cs : List InstanceId) → AllByRecursion (IsOf (s.parent e)) cs → (r : Option Names) → gathered (map (l (s.contained e)) cs) ≡ r → option_map (map (named e)) r ≡ Some is → AllByRecursion (IsOf e) is
      inner cs all None k h = absurd (cc h)
      inner cs all (Some names) k h = subst (AllByRecursion (IsOf e)) (same_Some (map (named e) names) is h) (all_map (IsOf e) (named e) names (names_live e pos lt cs all names k))

      go : (o : Option (List InstanceId)) → walk s l n (s.parent e) ≡ o → option_and_then (λ cs. option_map (map (named e)) (gathered (map (l (s.contained e)) cs))) o ≡ Some is → AllByRecursion (IsOf e) is
      go None k h = absurd (cc h)
      go (Some cs) k h = inner cs (before cs k) (gathered (map (l (s.contained e)) cs)) refl h

  pub walk_live : (n e : ℕ) → e ≤ n → e < s.count → (is : List InstanceId) → walk s l n e ≡ Some is → AllByRecursion (IsOf e) is
  unfolding walk
  walk_live zero e le lt is h = roots is e (omega (arith, le)) (same_Some (global ∷ []) is h)
  walk_live (suc n) e le lt is h =
      elim (e == 0) as (λ t. (e == 0) ≡ t → cond t (Some (global ∷ [])) (option_and_then (λ cs. option_map (map (named e)) (gathered (map (l (s.contained e)) cs))) (walk s l n (s.parent e))) ≡ Some is → AllByRecursion (IsOf e) is) [
        | true ↦ λ t g. roots is e (exact_unsigned_eq e 0 t) (same_Some (global ∷ []) is g)
        | false ↦ λ t g. step n e (positive e t) (omega (arith, le, shape.earlier e (positive e t) lt)) lt is g (λ cs k. walk_live n (s.parent e) (omega (arith, le, shape.earlier e (positive e t) lt)) (omega (arith, lt, shape.earlier e (positive e t) lt)) cs k)
      ] refl h

  -- Lists that agree at live containers have one Walk.
  pub same_walk : (l' : Lists) → ((e : ℕ) (c : InstanceId) → 0 < e → e < s.count → is_live (live_of s l) c ≡ true → l (s.contained e) c ≡ l' (s.contained e) c) → (n e : ℕ) → e ≤ n → e < s.count → walk s l n e ≡ walk s l' n e
  unfolding walk
  same_walk l' agree zero e le lt = refl
  same_walk l' agree (suc n) e le lt =
      elim (e == 0) as (λ t. (e == 0) ≡ t → cond t (Some (global ∷ [])) (option_and_then (λ cs. option_map (map (named e)) (gathered (map (l (s.contained e)) cs))) (walk s l n (s.parent e))) ≡ cond t (Some (global ∷ [])) (option_and_then (λ cs. option_map (map (named e)) (gathered (map (l' (s.contained e)) cs))) (walk s l' n (s.parent e)))) [
        | true ↦ λ t. refl
        | false ↦ λ t.
            let early = shape.earlier e (positive e t) lt in
            go (walk s l n (s.parent e)) (λ cs k. walk_live n (s.parent e) (omega (arith, le, early)) (omega (arith, lt, early)) cs k) (positive e t)
            ∙ ap (option_and_then (λ cs. option_map (map (named e)) (gathered (map (l' (s.contained e)) cs)))) (same_walk l' agree n (s.parent e) (omega (arith, le, early)) (omega (arith, lt, early)))
      ] refl
    where
      go : (o : Option (List InstanceId)) → ((cs : List InstanceId) → o ≡ Some cs → AllByRecursion (IsOf (s.parent e)) cs) → 0 < e → option_and_then (λ cs. option_map (map (named e)) (gathered (map (l (s.contained e)) cs))) o ≡ option_and_then (λ cs. option_map (map (named e)) (gathered (map (l' (s.contained e)) cs))) o
      go None all pos = refl
      go (Some cs) all pos = ap (λ xs. option_map (map (named e)) (gathered xs)) (map_same (l (s.contained e)) (l' (s.contained e)) (IsOf (s.parent e)) (λ c k. agree e c pos lt k.0) cs (all cs refl))

-- the `every` lists depend on what is live alone
pub same_every : (s : Shape) → IsShape s → (l l' : Lists) → ((e : ℕ) (c : InstanceId) → 0 < e → e < s.count → is_live (live_of s l) c ≡ true → l (s.contained e) c ≡ l' (s.contained e) c) → ((r : RelId) → s.target r < s.count) → (n : ℕ) → every_upto s l n ≡ every_upto s l' n
unfolding every_upto
same_every s shape l l' agree inside zero = refl
same_every s shape l l' agree inside (suc n) = λ k.
    cond (s.every (rel n)) (option_map_or (λ is. insert (same_every s shape l l' agree inside n k) (n, global) (map (λ i. i.name) is)) (same_walk s shape l l' agree s.count (s.target (rel n)) (le_of (inside (rel n))) (inside (rel n)) k) (same_every s shape l l' agree inside n k)) (same_every s shape l l' agree inside n k)
  where
    le_of : {a b : ℕ} → a < b → a ≤ b
    le_of h = omega (arith, h)

-- names of instances
abbrev pub each_name : List InstanceId → Names
each_name = map (λ i. i.name)

-- the names of the instances that names give are these names
pub names_again : (e : ℕ) (o : Option Names) → o ≡ option_map each_name (option_map (map (named e)) o)
names_again e None = refl
names_again e (Some names) = ap Some (each names)
  where
    each : (ns : Names) → ns ≡ each_name (map (named e) ns)
    each [] = refl
    each (n ∷ ns) = λ k. n ∷ each ns k

module _ (s : Shape) (l : Lists) where
  abbrev pub onward : ℕ → List InstanceId → Option (List InstanceId)
  onward e cs = option_map (map (named e)) (gathered (map (l (s.contained e)) cs))

  pub walk_none : (n e : ℕ) → n ≡ 0 → Some (global ∷ []) ≡ walk s l n e
  unfolding walk
  walk_none zero e z = refl
  walk_none (suc n) e z = absurd (omega (arith, z))

  pub walk_root : (n e : ℕ) → e ≡ 0 → Some (global ∷ []) ≡ walk s l n e
  unfolding walk
  walk_root zero e z = refl
  walk_root (suc n) e z = ap (λ b. cond b (Some (global ∷ [])) (option_and_then (onward e) (walk s l n (s.parent e)))) (sym (eq-eqb e 0 z))

  not_zero : (e : ℕ) → (e ≡ 0 → ⊥) → (e == 0) ≡ false
  not_zero e z = elim (e == 0) as (λ b. (e == 0) ≡ b → b ≡ false) [ true ↦ λ t. absurd (z (exact_unsigned_eq e 0 t)) | false ↦ λ _. refl ] refl

  pub walk_next : (n e : ℕ) → (n ≡ 0 → ⊥) → (e ≡ 0 → ⊥) → option_and_then (onward e) (walk s l (n - 1) (s.parent e)) ≡ walk s l n e
  unfolding walk
  walk_next zero e nz z = absurd (nz refl)
  walk_next (suc n) e nz z =
      let less : suc n - 1 ≡ n = omega arith in
      ap (λ m. option_and_then (onward e) (walk s l m (s.parent e))) less
      ∙ ap (λ b. cond b (Some (global ∷ [])) (option_and_then (onward e) (walk s l n (s.parent e)))) (sym (not_zero e z))

  pub every_none : empty ≡ every_upto s l 0
  unfolding every_upto
  every_none = refl

  every_step : (n : ℕ) → with_every s l n (every_upto s l n) ≡ every_upto s l (suc n)
  unfolding every_upto
  every_step n = refl

  pub every_next : (n : ℕ) → with_every s l n (every_upto s l n) ≡ every_upto s l (n + 1)
  every_next n = let same : suc n ≡ n + 1 = omega arith in every_step n ∙ ap (λ m. every_upto s l m) same
