-- A known Walk is what lives of an entity, in instance order.
use Rattle.std.specs.Prelude.{◌≡◌, ◌≤◌, ◌<◌, ◌-◌, ◌==◌, ℕ, zero, suc, Bool, true, false, cond, List, [], ◌∷◌, ◌++◌, Option, None, Some, map, filter, flat_map, unwrap_or, refl}
use Rattle.std.specs.Option.{option_map, option_and_then}
use Rattle.std.proofs.Common.{arith, ap, sym, subst, ◌∙◌, eq-eqb}
use Rattle.std.proofs.lemmas.List.Elements.{filter-append}
use Rattle.std.proofs.lemmas.Map.Views.{exact_unsigned_eq}
use Rattle.std.proofs.lemmas.Option.{same_Some}
use mathlib.Core.Bool.{true≢false}
use mathlib.Core.List.{map-append}
use Rattle.opa_cells.specs.declared.instance.InstanceId.{InstanceId}
use Rattle.opa_cells.specs.Instances.{global, named}
use Rattle.opa_case.specs.Shapes.{Shape, IsShape}
use Rattle.opa_case.specs.Live.{Names, Lists, Population, members, in_container, held, live_upto, live_of, gathered, walk}

abbrev of : ℕ → InstanceId × InstanceId → Bool
of e p = p.0.entity.0 == e

nothing_after : {A : Type 0} (xs : List A) → xs ++ [] ≡ xs
nothing_after [] = refl
nothing_after (x ∷ xs) = ap (λ ys. x ∷ ys) (nothing_after xs)

other : (a b : ℕ) → a < b → (b == a) ≡ false
other a b lt = elim (b == a) as (λ t. (b == a) ≡ t → t ≡ false) [ true ↦ λ h. absurd (let same = exact_unsigned_eq b a h in omega (arith, lt, same)) | false ↦ λ _. refl ] refl

above : (a b : ℕ) → a < b → (a == b) ≡ false
above a b lt = elim (a == b) as (λ t. (a == b) ≡ t → t ≡ false) [ true ↦ λ h. absurd (let same = exact_unsigned_eq a b h in omega (arith, lt, same)) | false ↦ λ _. refl ] refl

-- the instances that a container has of an entity are of that one alone
of_container : (e d : ℕ) (b : Bool) → (d == e) ≡ b → (c : InstanceId) (ns : Names) → filter (of e) (in_container d c ns) ≡ cond b (in_container d c ns) []
of_container e d true h c [] = refl
of_container e d false h c [] = refl
of_container e d true h c (n ∷ ns) = ap (λ t. cond t ((named d n, c) ∷ filter (of e) (in_container d c ns)) (filter (of e) (in_container d c ns))) h ∙ ap (λ xs. (named d n, c) ∷ xs) (of_container e d true h c ns)
of_container e d false h c (n ∷ ns) = ap (λ t. cond t ((named d n, c) ∷ filter (of e) (in_container d c ns)) (filter (of e) (in_container d c ns))) h ∙ of_container e d false h c ns

named_of : (e : ℕ) (c : InstanceId) (ns : Names) → map (λ p. p.0) (in_container e c ns) ≡ map (named e) ns
named_of e c [] = refl
named_of e c (n ∷ ns) = ap (λ xs. named e n ∷ xs) (named_of e c ns)

module _ (s : Shape) (l : Lists) where
  abbrev block : ℕ → List InstanceId → Population
  block d cs = flat_map (held s l d) cs

  of_block : (e d : ℕ) (b : Bool) → (d == e) ≡ b → (cs : List InstanceId) → filter (of e) (block d cs) ≡ cond b (block d cs) []
  of_block e d true h [] = refl
  of_block e d false h [] = refl
  of_block e d true h (c ∷ cs) =
      filter-append (of e) (held s l d c) (block d cs)
      ∙ ap (λ xs. xs ++ filter (of e) (block d cs)) (of_container e d true h c (unwrap_or (l (s.contained d) c) [])) ∙ ap (λ xs. held s l d c ++ xs) (of_block e d true h cs)
  of_block e d false h (c ∷ cs) =
      filter-append (of e) (held s l d c) (block d cs)
      ∙ ap (λ xs. xs ++ filter (of e) (block d cs)) (of_container e d false h c (unwrap_or (l (s.contained d) c) [])) ∙ of_block e d false h cs

  -- what lives of an entity is known as soon as its turn has come
  of_upto : (n e : ℕ) → e ≤ n → filter (of e) (live_upto s l n) ≡ filter (of e) (live_upto s l e)
  unfolding live_upto
  of_upto zero e le = let none : e ≡ 0 = omega (arith, le) in ap (λ k. filter (of e) (live_upto s l k)) (sym none)
  of_upto (suc n) e le = elim (suc n == e) as (λ b. (suc n == e) ≡ b → filter (of e) (live_upto s l (suc n)) ≡ filter (of e) (live_upto s l e)) [
    | true ↦ λ h. ap (λ k. filter (of e) (live_upto s l k)) (exact_unsigned_eq (suc n) e h)
    | false ↦ λ h. later h (earlier h) (λ le. of_upto n e le)
  ] refl
    where
      apart : (suc n == e) ≡ false → (suc n ≡ e → ⊥)
      apart k same = true≢false (sym (eq-eqb (suc n) e same) ∙ k)

      earlier : (suc n == e) ≡ false → e ≤ n
      earlier g = omega (arith, le, apart g)

      later : (suc n == e) ≡ false → e ≤ n → (e ≤ n → filter (of e) (live_upto s l n) ≡ filter (of e) (live_upto s l e)) → filter (of e) (live_upto s l (suc n)) ≡ filter (of e) (live_upto s l e)
      later h early before =
          filter-append (of e) (live_upto s l n) (block (suc n) (members (s.parent (suc n)) (live_upto s l n)))
          ∙ ap (λ xs. filter (of e) (live_upto s l n) ++ xs) (of_block e (suc n) false h (members (s.parent (suc n)) (live_upto s l n)))
          ∙ nothing_after (filter (of e) (live_upto s l n))
          ∙ before early

  none_yet : (n e : ℕ) → n < e → filter (of e) (live_upto s l n) ≡ []
  unfolding live_upto
  none_yet zero e lt = refl
  none_yet (suc n) e lt =
      filter-append (of e) (live_upto s l n) (block (suc n) (members (s.parent (suc n)) (live_upto s l n)))
      ∙ ap (λ xs. xs ++ filter (of e) (block (suc n) (members (s.parent (suc n)) (live_upto s l n)))) (none_yet n e (omega (arith, lt)))
      ∙ of_block e (suc n) false (above (suc n) e lt) (members (s.parent (suc n)) (live_upto s l n))

  members_upto : (p k n : ℕ) → p ≤ k → k ≤ n → members p (live_upto s l k) ≡ members p (live_upto s l n)
  members_upto p k n le more = ap (λ xs. cond (p == 0) (global ∷ []) (map (λ x. x.0) xs)) (of_upto k p le ∙ sym (of_upto n p (omega (arith, le, more))))

  -- the instances of an entity are those that the instances of its parent contain
  members_held : (n k : ℕ) → suc k ≤ n → s.parent (suc k) ≤ k → members (suc k) (live_upto s l n) ≡ map (λ p. p.0) (block (suc k) (members (s.parent (suc k)) (live_upto s l n)))
  unfolding live_upto
  members_held n k le early = ap (λ b. cond b (global ∷ []) (map (λ p. p.0) (filter (of (suc k)) (live_upto s l n)))) (other 0 (suc k) (omega arith)) ∙ ap (map (λ p. p.0)) (of_upto n (suc k) le ∙ turn) ∙ ap (λ cs. map (λ p. p.0) (block (suc k) cs)) (members_upto (s.parent (suc k)) k n early (omega (arith, le)))
    where
      turn : filter (of (suc k)) (live_upto s l (suc k)) ≡ block (suc k) (members (s.parent (suc k)) (live_upto s l k))
      turn =
          filter-append (of (suc k)) (live_upto s l k) (block (suc k) (members (s.parent (suc k)) (live_upto s l k)))
          ∙ ap (λ xs. xs ++ filter (of (suc k)) (block (suc k) (members (s.parent (suc k)) (live_upto s l k)))) (none_yet k (suc k) (omega arith))
          ∙ of_block (suc k) (suc k) true (eq-eqb (suc k) (suc k) refl) (members (s.parent (suc k)) (live_upto s l k))

  held_known : (e : ℕ) (cs : List InstanceId) (names : Names) → gathered (map (l (s.contained e)) cs) ≡ Some names → map (λ p. p.0) (block e cs) ≡ map (named e) names
  held_known e [] names g = ap (map (named e)) (same_Some [] names g)
  held_known e (c ∷ cs) names g = go (l (s.contained e) c) refl (gathered (map (l (s.contained e)) cs)) refl g (λ rest h. held_known e cs rest h)
    where
      go : (o : Option Names) → l (s.contained e) c ≡ o → (r : Option Names) → gathered (map (l (s.contained e)) cs) ≡ r → gathered (o ∷ map (l (s.contained e)) cs) ≡ Some names
          → ((rest : Names) → gathered (map (l (s.contained e)) cs) ≡ Some rest → map (λ p. p.0) (block e cs) ≡ map (named e) rest) → map (λ p. p.0) (held s l e c ++ block e cs) ≡ map (named e) names
      go None is r more h later = absurd (cc h)
      go (Some ns) is None more h later = absurd (cc (sym (ap (option_map (λ rest. ns ++ rest)) more) ∙ h))
      go (Some ns) is (Some rest) more h later =
          map-append (λ p. p.0) (held s l e c) (block e cs)
          ∙ ap (λ xs. xs ++ map (λ p. p.0) (block e cs)) (ap (λ o. map (λ p. p.0) (in_container e c (unwrap_or o []))) is ∙ named_of e c ns)
          ∙ ap (λ xs. map (named e) ns ++ xs) (later rest more)
          ∙ sym (map-append (named e) ns rest)
          ∙ ap (map (named e)) (same_Some (ns ++ rest) names (sym (ap (option_map (λ r. ns ++ r)) more) ∙ h))

  module _ (shape : IsShape s) where
    pub walk_members : (n e : ℕ) → e ≤ n → e < s.count → (is : List InstanceId) → walk s l n e ≡ Some is → members e (live_of s l) ≡ is
    unfolding walk
    walk_members n zero le lt is h = same_Some (global ∷ []) is (root n h)
      where
        root : (n : ℕ) → walk s l n 0 ≡ Some is → Some (global ∷ []) ≡ Some is
        root zero g = g
        root (suc n) g = g
    walk_members zero (suc k) le lt is h = absurd (omega (arith, le))
    walk_members (suc n) (suc k) le lt is h = go (walk s l n (s.parent (suc k))) refl next (λ cs g. walk_members n (s.parent (suc k)) (omega (arith, early, le)) (omega (arith, early, lt)) cs g)
      where
        early : s.parent (suc k) < suc k
        early = shape.earlier (suc k) (omega arith) lt

        next : option_and_then (λ cs. option_map (map (named (suc k))) (gathered (map (l (s.contained (suc k))) cs))) (walk s l n (s.parent (suc k))) ≡ Some is
        next = subst (λ b. cond b (Some (global ∷ [])) (option_and_then (λ cs. option_map (map (named (suc k))) (gathered (map (l (s.contained (suc k))) cs))) (walk s l n (s.parent (suc k)))) ≡ Some is) (other 0 (suc k) (omega arith)) h

        step : (cs : List InstanceId) → members (s.parent (suc k)) (live_of s l) ≡ cs → (o : Option Names) → gathered (map (l (s.contained (suc k))) cs) ≡ o → option_map (map (named (suc k))) o ≡ Some is → members (suc k) (live_of s l) ≡ is
        step cs are None known g = absurd (cc g)
        step cs are (Some names) known g =
            members_held (s.count - 1) k (omega (arith, lt)) (omega (arith, early)) ∙ ap (λ xs. map (λ p. p.0) (block (suc k) xs)) are
            ∙ held_known (suc k) cs names known ∙ same_Some (map (named (suc k)) names) is g

        go : (o : Option (List InstanceId)) → walk s l n (s.parent (suc k)) ≡ o → option_and_then (λ cs. option_map (map (named (suc k))) (gathered (map (l (s.contained (suc k))) cs))) o ≡ Some is
            → ((cs : List InstanceId) → walk s l n (s.parent (suc k)) ≡ Some cs → members (s.parent (suc k)) (live_of s l) ≡ cs) → members (suc k) (live_of s l) ≡ is
        go None at g before = absurd (cc g)
        go (Some cs) at g before = step cs (before cs at) (gathered (map (l (s.contained (suc k))) cs)) refl g
