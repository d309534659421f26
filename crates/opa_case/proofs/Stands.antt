-- Where live instances stand.
use Rattle.std.specs.Prelude.{◌≡◌, ◌≤◌, ◌<◌, ◌+◌, ◌-◌, ◌==◌, ℕ, zero, suc, Bool, true, false, cond, ◌||◌, List, [], ◌∷◌, ◌++◌, Option, None, Some, map, filter, flat_map, unwrap_or, refl}
use Rattle.std.specs.List.{list_any}
use Rattle.std.specs.Map.{lookup}
use Rattle.std.specs.Option.{option_or}
use Rattle.std.proofs.Common.{arith, ap, sym, subst, ◌∙◌, ◌⊎◌, inl, inr, eq-eqb}
use mathlib.Core.Bool.{true≢false}
use Rattle.std.specs.Cmp.{eq_by_cmp_equiv}
use Rattle.std.specs.Cmp.Lexicographic.{nat_list_cmp_total}
use Rattle.std.proofs.lemmas.Map.Lookups.{exact_bytes}
use Rattle.std.proofs.lemmas.Map.Views.{tells_apart, exact_unsigned_eq}
use Rattle.std.proofs.lemmas.List.Folds.{list_any-append}
use Rattle.std.proofs.lemmas.Option.{same_Some}
use Rattle.std.proofs.lemmas.Bool.{or_right, or_left}
use Rattle.opa_case.proofs.Lively.{live_later}
use Rattle.opa_cells.specs.declared.instance.InstanceId.{InstanceId}
use Rattle.opa_cells.specs.Instances.{is_same, is_text, global, named}
use Rattle.opa_case.specs.Shapes.{Shape, IsShape}
use Rattle.opa_case.specs.Live.{Names, Lists, Population, members, held, live_upto, live_of, is_live, container_of}
use Rattle.opa_cells.proofs.Orders.{same_is, same_itself}

pub lookup_append : {K X : Type 0} (t : K → Bool) (xs ys : List (K × X)) → lookup t (xs ++ ys) ≡ option_or (lookup t xs) (lookup t ys)
lookup_append t [] ys = refl
lookup_append t (x ∷ xs) ys = elim (t x.0) as (λ b. cond b (Some x.1) (lookup t (xs ++ ys)) ≡ option_or (cond b (Some x.1) (lookup t xs)) (lookup t ys)) [ true ↦ refl | false ↦ lookup_append t xs ys ]

pub either_has : {X : Type 0} (a b : Option X) (x : X) → option_or a b ≡ Some x → (a ≡ Some x) ⊎ (b ≡ Some x)
either_has None b x e = inr e
either_has (Some y) b x e = inl e

-- the instance stands in the known list of the container
pub record Has (s : Shape) (l : Lists) (i c : InstanceId) : Type 0 where
  pub names : Names
  pub known : l (s.contained i.entity.0) c ≡ Some names
  pub listed : list_any (is_text i.name) names ≡ true

pub text_itself : (n : List ℕ) → is_text n n ≡ true
text_itself n = (eq_by_cmp_equiv nat_list_cmp_total).refl n

pub text_is : (n m : List ℕ) → is_text n m ≡ true → n ≡ m
text_is n m h = tells_apart exact_bytes n m h

pub any_weaker : {A : Type 0} (p q : A → Bool) → ((x : A) → p x ≡ true → q x ≡ true) → (xs : List A) → list_any p xs ≡ true → list_any q xs ≡ true
any_weaker p q f [] h = h
any_weaker p q f (x ∷ xs) h =
    elim (p x) as (λ b. p x ≡ b → (b || list_any p xs) ≡ true → (q x || list_any q xs) ≡ true) [
      | true ↦ λ e _. or_left (q x) _ (f x e)
      | false ↦ λ _ g. or_right (q x) _ (any_weaker p q f xs g)
    ] refl h

pub any_map : {A B : Type 0} (q : B → Bool) (f : A → B) (xs : List A) → list_any q (map f xs) ≡ list_any (λ x. q (f x)) xs
any_map q f [] = refl
any_map q f (x ∷ xs) = ap (λ b. q (f x) || b) (any_map q f xs)

pub lookup_found : {K X : Type 0} (t : K → Bool) (es : List (K × X)) → list_any (λ p. t p.0) es ≡ true → (d : X) × (lookup t es ≡ Some d)
lookup_found t [] h = absurd (true≢false (sym h))
lookup_found {X = X} t (x ∷ xs) h =
    elim (t x.0) as (λ b. (b || list_any (λ p. t p.0) xs) ≡ true → (d : X) × (cond b (Some x.1) (lookup t xs) ≡ Some d)) [ true ↦ λ _. (x.1, refl) | false ↦ λ g. lookup_found t xs g ] h

module _ (s : Shape) (l : Lists) where
  in_names : (e : ℕ) (i c d : InstanceId) (ns : Names) → lookup (is_same i) (map (λ n. (named e n, c)) ns) ≡ Some d → (d ≡ c) × (i.entity.0 ≡ e) × (list_any (is_text i.name) ns ≡ true)
  in_names e i c d [] h = absurd (cc h)
  in_names e i c d (n ∷ ns) h =
      elim (is_same i (named e n)) as (λ b. is_same i (named e n) ≡ b → cond b (Some c) (lookup (is_same i) (map (λ m. (named e m, c)) ns)) ≡ Some d → (d ≡ c) × (i.entity.0 ≡ e) × ((is_text i.name n || list_any (is_text i.name) ns) ≡ true)) [
        | true ↦ λ p g. let q = same_is i (named e n) p in (sym (same_Some c d g), ap (λ (j : InstanceId). j.entity.0) q, or_left (is_text i.name n) _ (subst (λ m. is_text i.name m ≡ true) (ap (λ (j : InstanceId). j.name) q) (text_itself i.name)))
        | false ↦ λ p g. let r = in_names e i c d ns g in (r.0, r.1, or_right (is_text i.name n) _ r.2)
      ] refl h

  abbrev pub Placed : ℕ → InstanceId → InstanceId → Type 0
  Placed e i d = (i.entity.0 ≡ e) × Has s l i d

  in_container : (e : ℕ) (i c d : InstanceId) → lookup (is_same i) (held s l e c) ≡ Some d → Placed e i d
  in_container e i c d h = go (l (s.contained e) c) refl h
    where
      go : (o : Option Names) → l (s.contained e) c ≡ o → lookup (is_same i) (map (λ n. (named e n, c)) (unwrap_or o [])) ≡ Some d → Placed e i d
      go None is g = absurd (cc g)
      go (Some ns) is g =
          let r = in_names e i c d ns g in
          (r.1, record { names = ns; known = ap (λ k. l (s.contained k) d) r.1 ∙ ap (l (s.contained e)) r.0 ∙ is; listed = r.2 })

  pub in_containers : (e : ℕ) (i d : InstanceId) (cs : List InstanceId) → lookup (is_same i) (flat_map (held s l e) cs) ≡ Some d → Placed e i d
  in_containers e i d [] h = absurd (cc h)
  in_containers e i d (c ∷ cs) h = go (either_has _ _ d (sym (lookup_append (is_same i) (held s l e c) (flat_map (held s l e) cs)) ∙ h)) (λ g. in_containers e i d cs g)
    where
      go : (lookup (is_same i) (held s l e c) ≡ Some d) ⊎ (lookup (is_same i) (flat_map (held s l e) cs) ≡ Some d) → ((lookup (is_same i) (flat_map (held s l e) cs) ≡ Some d) → Placed e i d) → Placed e i d
      go (inl g) rest = in_container e i c d g
      go (inr g) rest = rest g

  pub in_upto : (n : ℕ) (i d : InstanceId) → lookup (is_same i) (live_upto s l n) ≡ Some d → (0 < i.entity.0) × (i.entity.0 ≤ n) × Has s l i d
  unfolding live_upto
  in_upto zero i d h = absurd (cc h)
  in_upto (suc n) i d h = go (either_has _ _ d (sym (lookup_append (is_same i) (live_upto s l n) _) ∙ h)) (λ g. in_upto n i d g)
    where
      go : (lookup (is_same i) (live_upto s l n) ≡ Some d) ⊎ (lookup (is_same i) (flat_map (held s l (suc n)) (members (s.parent (suc n)) (live_upto s l n))) ≡ Some d)
          → ((lookup (is_same i) (live_upto s l n) ≡ Some d) → (0 < i.entity.0) × (i.entity.0 ≤ n) × Has s l i d) → (0 < i.entity.0) × (i.entity.0 ≤ suc n) × Has s l i d
      go (inl g) rest = let r = rest g in (r.0, omega (arith, r.1), r.2)
      go (inr g) rest = let r = in_containers (suc n) i d _ g in (omega (arith, r.0), omega (arith, r.0), r.1)

  abbrev pub is_in : Population → InstanceId → Bool
  is_in live i = list_any (λ p. is_same i p.0) live

  bounds : (n : ℕ) (i : InstanceId) → is_in (live_upto s l n) i ≡ true → (0 < i.entity.0) × (i.entity.0 ≤ n)
  bounds n i h = let f = lookup_found (is_same i) (live_upto s l n) h in let r = in_upto n i f.0 f.1 in (r.0, r.1)

  any_held : (e : ℕ) (n : List ℕ) (c : InstanceId) (ns : Names) → l (s.contained e) c ≡ Some ns → list_any (is_text n) ns ≡ true → is_in (held s l e c) (named e n) ≡ true
  any_held e n c ns is h =
      ap (λ o. is_in (map (λ m. (named e m, c)) (unwrap_or o [])) (named e n)) is
      ∙ any_map (λ (p : InstanceId × InstanceId). is_same (named e n) p.0) (λ m. (named e m, c)) ns
      ∙ any_weaker (is_text n) (λ m. is_same (named e n) (named e m)) (λ m t. subst (λ k. is_same (named e n) (named e k) ≡ true) (text_is n m t) (same_itself (named e n))) ns h

  any_flat : (e : ℕ) (n : List ℕ) (c : InstanceId) (ns : Names) → l (s.contained e) c ≡ Some ns → list_any (is_text n) ns ≡ true → (cs : List InstanceId) → list_any (is_same c) cs ≡ true → is_in (flat_map (held s l e) cs) (named e n) ≡ true
  any_flat e n c ns is h [] g = g
  any_flat e n c ns is h (x ∷ cs) g =
      list_any-append (λ (p : InstanceId × InstanceId). is_same (named e n) p.0) (held s l e x) (flat_map (held s l e) cs)
      ∙ elim (is_same c x) as (λ b. is_same c x ≡ b → (b || list_any (is_same c) cs) ≡ true → (is_in (held s l e x) (named e n) || is_in (flat_map (held s l e) cs) (named e n)) ≡ true) [
        | true ↦ λ p _. or_left _ _ (subst (λ y. is_in (held s l e y) (named e n) ≡ true) (same_is c x p) (any_held e n c ns is h))
        | false ↦ λ _ k. or_right (is_in (held s l e x) (named e n)) _ (any_flat e n c ns is h cs k)
      ] refl g

  -- an instance of an early entity is among the early ones
  pub earlier_in : (j k n : ℕ) (i : InstanceId) → j + k ≡ n → i.entity.0 ≤ k → is_in (live_upto s l n) i ≡ true → is_in (live_upto s l k) i ≡ true
  unfolding live_upto
  earlier_in zero k n i e lt h = let same : n ≡ k = omega (arith, e) in subst (λ m. is_in (live_upto s l m) i ≡ true) same h
  earlier_in (suc j) k zero i e lt h = absurd (omega (arith, e))
  earlier_in (suc j) k (suc n) i e lt h =
      earlier_in j k n i (omega (arith, e)) lt
      (elim (is_in (live_upto s l n) i) as (λ b. (b || is_in (flat_map (held s l (suc n)) (members (s.parent (suc n)) (live_upto s l n))) i) ≡ true → b ≡ true) [
        | true ↦ λ _. refl
        | false ↦ λ g. let f = lookup_found (is_same i) _ g in absurd (omega (arith, (in_containers (suc n) i f.0 _ f.1).0, lt, e))
      ] (sym (list_any-append (λ (p : InstanceId × InstanceId). is_same i p.0) (live_upto s l n) _) ∙ h))

  among : (c : InstanceId) (xs : Population) → is_in xs c ≡ true → list_any (is_same c) (map (λ p. p.0) (filter (λ p. p.0.entity.0 == c.entity.0) xs)) ≡ true
  among c [] h = h
  among c (x ∷ xs) h =
      elim (x.0.entity.0 == c.entity.0) as (λ t. (x.0.entity.0 == c.entity.0) ≡ t → list_any (is_same c) (map (λ p. p.0) (cond t (x ∷ filter (λ p. p.0.entity.0 == c.entity.0) xs) (filter (λ p. p.0.entity.0 == c.entity.0) xs))) ≡ true) [
        | true ↦ λ _. elim (is_same c x.0) as (λ b. (b || is_in xs c) ≡ true → (b || list_any (is_same c) (map (λ p. p.0) (filter (λ p. p.0.entity.0 == c.entity.0) xs))) ≡ true) [ true ↦ λ _. refl | false ↦ λ g. among c xs g ] h
        | false ↦ λ no. elim (is_same c x.0) as (λ b. is_same c x.0 ≡ b → (b || is_in xs c) ≡ true → list_any (is_same c) (map (λ p. p.0) (filter (λ p. p.0.entity.0 == c.entity.0) xs)) ≡ true) [
          | true ↦ λ p _. absurd (true≢false (sym (eq-eqb (x.0.entity.0) (c.entity.0) (sym (ap (λ (j : InstanceId). j.entity.0) (same_is c x.0 p)))) ∙ no))
          | false ↦ λ _ g. among c xs g
        ] refl h
      ] refl

  pub in_members : (k m : ℕ) (c : InstanceId) → k ≤ m → c.entity.0 ≤ k → is_live (live_upto s l m) c ≡ true → list_any (is_same c) (members c.entity.0 (live_upto s l k)) ≡ true
  in_members k m c le early is =
      elim (c.entity.0 == 0) as (λ t. (c.entity.0 == 0) ≡ t → list_any (is_same c) (cond t (global ∷ []) (map (λ p. p.0) (filter (λ p. p.0.entity.0 == c.entity.0) (live_upto s l k)))) ≡ true) [
        | true ↦ λ e. elim (is_same c global) as (λ b. (b || is_in (live_upto s l m) c) ≡ true → (b || false) ≡ true) [
          | true ↦ λ _. refl
          | false ↦ λ g. absurd (omega (arith, (bounds m c g).0, exact_unsigned_eq c.entity.0 0 e))
        ] is
        | false ↦ λ no. elim (is_same c global) as (λ b. is_same c global ≡ b → (b || is_in (live_upto s l m) c) ≡ true → list_any (is_same c) (map (λ p. p.0) (filter (λ p. p.0.entity.0 == c.entity.0) (live_upto s l k))) ≡ true) [
          | true ↦ λ e _. absurd (true≢false (sym (eq-eqb c.entity.0 0 (ap (λ (j : InstanceId). j.entity.0) (same_is c global e))) ∙ no))
          | false ↦ λ _ g. among c (live_upto s l k) (earlier_in (m - k) k m c (omega (arith, le)) early g)
        ] refl is
      ] refl

  pub not_global : (live : Population) (i : InstanceId) → 0 < i.entity.0 → is_live live i ≡ true → is_in live i ≡ true
  not_global live i pos h =
      elim (is_same i global) as (λ b. is_same i global ≡ b → (b || is_in live i) ≡ true → is_in live i ≡ true) [
        | true ↦ λ e _. let zero_is : i.entity.0 ≡ 0 = ap (λ (j : InstanceId). j.entity.0) (same_is i global e) in absurd (omega (arith, zero_is, pos))
        | false ↦ λ _ g. g
      ] refl h

  one_block : (e : ℕ) (n : List ℕ) (c : InstanceId) (ns : Names) → l (s.contained (suc e)) c ≡ Some ns → list_any (is_text n) ns ≡ true → list_any (is_same c) (members (s.parent (suc e)) (live_upto s l e)) ≡ true → is_in (live_upto s l (suc e)) (named (suc e) n) ≡ true
  unfolding live_upto
  one_block e n c ns known listed h =
      list_any-append (λ (p : InstanceId × InstanceId). is_same (named (suc e) n) p.0) (live_upto s l e) (flat_map (held s l (suc e)) (members (s.parent (suc e)) (live_upto s l e)))
      ∙ or_right (is_in (live_upto s l e) (named (suc e) n)) _ (any_flat (suc e) n c ns known listed (members (s.parent (suc e)) (live_upto s l e)) h)

  -- A name that a live instance of the parent entity lists is live.
  pub has_live : IsShape s → (e : ℕ) (n : List ℕ) (c : InstanceId) (ns : Names) → 0 < e → e < s.count → is_live (live_of s l) c ≡ true → c.entity.0 ≡ s.parent e → l (s.contained e) c ≡ Some ns → list_any (is_text n) ns ≡ true → is_live (live_of s l) (named e n) ≡ true
  has_live shape zero n c ns pos lt is parent known listed = absurd (omega (arith, pos))
  has_live shape (suc e) n c ns pos lt is parent known listed =
      let early = shape.earlier (suc e) pos lt in
      let here = in_members e (s.count - 1) c (omega (arith, lt)) (omega (arith, early, parent)) is in
      let block = one_block e n c ns known listed (subst (λ p. list_any (is_same c) (members p (live_upto s l e)) ≡ true) parent here) in
      live_later s l (s.count - 1 - suc e) (suc e) (s.count - 1) (omega (arith, lt)) (named (suc e) n) (or_right (is_same (named (suc e) n) global) _ block)

  -- It stands in some container.
  pub container_found : (i : InstanceId) → 0 < i.entity.0 → is_live (live_of s l) i ≡ true → (d : InstanceId) × (container_of (live_of s l) i ≡ Some d) × Has s l i d
  container_found i pos h =
      let f = lookup_found (is_same i) (live_of s l) (not_global (live_of s l) i pos h) in
      (f.0, f.1, (in_upto (s.count - 1) i f.0 f.1).2)
