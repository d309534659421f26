-- The live instances of an entity are those that the live instances of its parent entity list.
use Rattle.std.proofs.Common.{◌≡◌, ℕ, zero, suc, ◌+◌, ◌-◌, ◌<◌, ◌≤◌, List, [], ◌∷◌, ◌++◌, Bool, true, false, cond, refl, sym, ◌∙◌, ap, arith, eq-eqb}
use Rattle.std.specs.Prelude.{map, filter, flat_map, unwrap_or, ◌==◌}
use Rattle.std.proofs.lemmas.Bool.{ne_eqb}
use Rattle.std.proofs.lemmas.List.{append-nil}
use Rattle.opa_cells.specs.declared.instance.InstanceId.{InstanceId}
use Rattle.opa_cells.specs.Instances.{global, named}
use Rattle.opa_case.specs.Live.{Names, Lists, Population, members, in_container, held, live_upto, live_of}
use Rattle.opa_case.specs.Shapes.{Shape, IsShape}
use Rattle.opa_case.specs.Instances.{listed_by}

-- those of an entity other than the global one
abbrev pub picked : ℕ → Population → List InstanceId
picked e live = map (λ p. p.0) (filter (λ p. p.0.entity.0 == e) live)

pub picked-append : (e : ℕ) (xs ys : Population) → picked e (xs ++ ys) ≡ picked e xs ++ picked e ys
picked-append e [] ys = refl
picked-append e (x ∷ xs) ys = go (x.0.entity.0 == e) (picked-append e xs ys)
  where
    go : (b : Bool) → picked e (xs ++ ys) ≡ picked e xs ++ picked e ys
        → map (λ (p : InstanceId × InstanceId). p.0) (cond b (x ∷ filter (λ p. p.0.entity.0 == e) (xs ++ ys)) (filter (λ p. p.0.entity.0 == e) (xs ++ ys))) ≡ map (λ (p : InstanceId × InstanceId). p.0) (cond b (x ∷ filter (λ p. p.0.entity.0 == e) xs) (filter (λ p. p.0.entity.0 == e) xs)) ++ picked e ys
    go true h = ap (λ is. x.0 ∷ is) h
    go false h = h

picking : ℕ → Population → InstanceId × InstanceId → Bool → List InstanceId
picking e xs x b = map (λ (p : InstanceId × InstanceId). p.0) (cond b (x ∷ filter (λ p. p.0.entity.0 == e) xs) (filter (λ p. p.0.entity.0 == e) xs))

picked_own : (t : ℕ) (c : InstanceId) (ns : Names) → picked t (in_container t c ns) ≡ map (named t) ns
unfolding picking
picked_own t c [] = refl
picked_own t c (n ∷ ns) = ap (picking t (in_container t c ns) (named t n, c)) (eq-eqb t t refl) ∙ ap (λ is. named t n ∷ is) (picked_own t c ns)

picked_other : (e t : ℕ) → (t == e) ≡ false → (c : InstanceId) (ns : Names) → picked e (in_container t c ns) ≡ []
unfolding picking
picked_other e t other c [] = refl
picked_other e t other c (n ∷ ns) = ap (picking e (in_container t c ns) (named t n, c)) other ∙ picked_other e t other c ns

module _ (s : Shape) (l : Lists) where
  abbrev names_in : ℕ → InstanceId → Names
  names_in t c = unwrap_or (l (s.contained t) c) []

  flat_own : (t : ℕ) (cs : List InstanceId) → picked t (flat_map (held s l t) cs) ≡ listed_by l (s.contained t) t cs
  flat_own t [] = refl
  flat_own t (c ∷ cs) = picked-append t (held s l t c) (flat_map (held s l t) cs) ∙ ap (λ is. is ++ picked t (flat_map (held s l t) cs)) (picked_own t c (names_in t c)) ∙ ap (λ is. map (named t) (names_in t c) ++ is) (flat_own t cs)

  flat_other : (e t : ℕ) → (t == e) ≡ false → (cs : List InstanceId) → picked e (flat_map (held s l t) cs) ≡ []
  flat_other e t other [] = refl
  flat_other e t other (c ∷ cs) = picked-append e (held s l t c) (flat_map (held s l t) cs) ∙ ap (λ is. is ++ picked e (flat_map (held s l t) cs)) (picked_other e t other c (names_in t c)) ∙ flat_other e t other cs

  one_later : (e n : ℕ) → e ≤ n → picked e (live_upto s l (suc n)) ≡ picked e (live_upto s l n)
  unfolding live_upto
  one_later e n le =
      picked-append e (live_upto s l n) (flat_map (held s l (suc n)) (members (s.parent (suc n)) (live_upto s l n)))
      ∙ ap (λ is. picked e (live_upto s l n) ++ is) (flat_other e (suc n) (ne_eqb (suc n) e (λ same. omega (arith, same, le))) (members (s.parent (suc n)) (live_upto s l n)))
      ∙ append-nil (picked e (live_upto s l n))

  picked_later : (k n m e : ℕ) → k + n ≡ m → e ≤ n → picked e (live_upto s l m) ≡ picked e (live_upto s l n)
  picked_later zero n m e eq le = let same : m ≡ n = omega (arith, eq) in ap (λ j. picked e (live_upto s l j)) same
  picked_later (suc k) n m e eq le =
      let same : m ≡ suc (k + n) = omega (arith, eq) in
      ap (λ j. picked e (live_upto s l j)) same ∙ one_later e (k + n) (omega (arith, le)) ∙ picked_later k n (k + n) e refl le

  -- none of an entity that wasn't reached
  none_yet : (n e : ℕ) → n < e → picked e (live_upto s l n) ≡ []
  unfolding live_upto
  none_yet zero e lt = refl
  none_yet (suc n) e lt =
      picked-append e (live_upto s l n) (flat_map (held s l (suc n)) (members (s.parent (suc n)) (live_upto s l n)))
      ∙ ap (λ is. is ++ picked e (flat_map (held s l (suc n)) (members (s.parent (suc n)) (live_upto s l n)))) (none_yet n e (omega (arith, lt)))
      ∙ flat_other e (suc n) (ne_eqb (suc n) e (λ same. omega (arith, same, lt))) (members (s.parent (suc n)) (live_upto s l n))

  reached : (n : ℕ) → picked (suc n) (live_upto s l (suc n)) ≡ listed_by l (s.contained (suc n)) (suc n) (members (s.parent (suc n)) (live_upto s l n))
  unfolding live_upto
  reached n =
      picked-append (suc n) (live_upto s l n) (flat_map (held s l (suc n)) (members (s.parent (suc n)) (live_upto s l n)))
      ∙ ap (λ is. is ++ picked (suc n) (flat_map (held s l (suc n)) (members (s.parent (suc n)) (live_upto s l n)))) (none_yet n (suc n) (omega arith))
      ∙ flat_own (suc n) (members (s.parent (suc n)) (live_upto s l n))

  -- of an entity that is reached later ones change nothing
  members_at : (n e : ℕ) → e ≤ n → n ≤ s.count - 1 → members e (live_of s l) ≡ members e (live_upto s l n)
  members_at n e le lt = ap (λ is. cond (e == 0) (global ∷ []) is) (picked_later (s.count - 1 - n) n (s.count - 1) e (omega (arith, lt)) le)

  pub members_listed : IsShape s → (e : ℕ) → 0 < e → e < s.count → members e (live_of s l) ≡ listed_by l (s.contained e) e (members (s.parent e) (live_of s l))
  members_listed shape zero pos lt = absurd (omega (arith, pos))
  members_listed shape (suc n) pos lt =
      let early = shape.earlier (suc n) pos lt in
      members_at (suc n) (suc n) (omega arith) (omega (arith, lt))
      ∙ ap (λ b. cond b (global ∷ []) (picked (suc n) (live_upto s l (suc n)))) (ne_eqb (suc n) 0 (λ same. omega (arith, same)))
      ∙ reached n
      ∙ ap (listed_by l (s.contained (suc n)) (suc n)) (sym (members_at n (s.parent (suc n)) (omega (arith, early)) (omega (arith, lt))))
