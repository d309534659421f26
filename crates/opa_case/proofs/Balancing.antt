-- A change of one containment list, summed up over the entities.
use Rattle.std.specs.Prelude.{◌≡◌, ◌≤◌, ◌<◌, ◌+◌, ◌==◌, ℕ, zero, suc, true, false, cond, List, [], ◌∷◌, None, map, filter, flat_map, unwrap_or, refl}
use Rattle.std.specs.List.{AllByRecursion}
use Rattle.std.proofs.Common.{arith, ap, sym, subst, ◌∙◌, ne_eqb, eq-eqb}
use Rattle.opa_io.proofs.Lists.{each_weaker}
use Rattle.opa_model.specs.declared.ids.RelId.{RelId}
use Rattle.opa_cells.specs.declared.instance.InstanceId.{InstanceId}
use Rattle.opa_cells.specs.Instances.{is_same, global, named}
use Rattle.opa_case.specs.Shapes.{Shape}
use Rattle.opa_case.specs.Live.{Names, Lists, Population, members, in_container, held, live_upto}
use Rattle.opa_case.specs.Cases.{are_names}
use Rattle.opa_case.specs.Turns.{names_without, gone_at, gone_upto}
use Rattle.opa_case.proofs.Lively.{same_live}
use Rattle.opa_case.proofs.Weighing.{weigh, weigh-append, weigh-flat, weigh-map, weigh_same, weigh_nothing, weigh_once, weigh_at_least, weigh_of, exchanged, without_less, of_parent, times}
use Rattle.opa_case.proofs.Distinct.{live_weight}

-- What members of an entity contain, over populations whose sums agree.
module _ (g : InstanceId → Population) (w : InstanceId × InstanceId → ℕ) (p : ℕ) where
  abbrev each : InstanceId → ℕ
  each c = weigh w (g c)

  contained_of : (gone : Population) → weigh w (flat_map g (map (λ x. x.0) (filter (λ x. x.0.entity.0 == p) gone))) ≡ weigh (of_parent p each) gone
  contained_of gone = weigh-flat w g (map (λ x. x.0) (filter (λ x. x.0.entity.0 == p) gone)) ∙ weigh_of each p gone

  block_balanced : (next gone live come : Population) → weigh (of_parent p each) next + weigh (of_parent p each) gone ≡ weigh (of_parent p each) live + weigh (of_parent p each) come → weigh (of_parent p each) come ≡ 0
      → weigh each (members p next) + weigh w (cond (p == 0) [] (flat_map g (members p gone))) ≡ weigh each (members p live)
  block_balanced next gone live come sums none = elim (p == 0) as (λ b. weigh each (cond b (global ∷ []) (map (λ x. x.0) (filter (λ x. x.0.entity.0 == p) next))) + weigh w (cond b [] (flat_map g (cond b (global ∷ []) (map (λ x. x.0) (filter (λ x. x.0.entity.0 == p) gone))))) ≡ weigh each (cond b (global ∷ []) (map (λ x. x.0) (filter (λ x. x.0.entity.0 == p) live)))) [
    | true ↦ omega arith
    | false ↦ omega (arith, weigh_of each p next, weigh_of each p live, contained_of gone, sums, none)
  ]

  block_less : (gone live : Population) → weigh (of_parent p each) gone ≤ weigh (of_parent p each) live → weigh w (cond (p == 0) [] (flat_map g (members p gone))) ≤ weigh each (members p live)
  block_less gone live less = elim (p == 0) as (λ b. weigh w (cond b [] (flat_map g (cond b (global ∷ []) (map (λ x. x.0) (filter (λ x. x.0.entity.0 == p) gone))))) ≤ weigh each (cond b (global ∷ []) (map (λ x. x.0) (filter (λ x. x.0.entity.0 == p) live)))) [
    | true ↦ omega arith
    | false ↦ omega (arith, weigh_of each p live, contained_of gone, less)
  ]

-- An entity suc n, one of whose lists changes from old names to new ones, at an instance of its parent entity.
module _ (s : Shape) (l l' : Lists) (n : ℕ) (i : InstanceId) (old new : Names) where
  abbrev pub seeds : Population
  seeds = in_container (suc n) i (names_without old new)

  abbrev pub fresh : Population
  fresh = in_container (suc n) i (names_without new old)

  abbrev pub gone : ℕ → Population
  gone k = gone_upto s l (suc n) seeds k

  gone_weight : (k : ℕ) (w : InstanceId × InstanceId → ℕ) → weigh w (gone (suc k)) ≡ weigh w (gone k) + weigh w (gone_at s l (suc n) seeds (suc k) (gone k))
  unfolding gone_upto
  gone_weight k w = weigh-append w (gone k) (gone_at s l (suc n) seeds (suc k) (gone k))

  gone_start : gone 0 ≡ []
  unfolding gone_upto
  gone_start = refl

  none_at : (k : ℕ) (w : InstanceId × InstanceId → ℕ) (before : Population) → before ≡ [] → (suc k ≡ suc n → ⊥) → weigh w (gone_at s l (suc n) seeds (suc k) before) ≡ 0
  none_at k w before none apart =
      ap (λ b. weigh w (cond b seeds (cond (s.parent (suc k) == 0) [] (flat_map (held s l (suc k)) (members (s.parent (suc k)) before))))) (ne_eqb (suc k) (suc n) apart)
      ∙ ap (λ xs. weigh w (cond (s.parent (suc k) == 0) [] (flat_map (held s l (suc k)) (members (s.parent (suc k)) xs)))) none
      ∙ elim (s.parent (suc k) == 0) as (λ b. weigh w (cond b [] (flat_map (held s l (suc k)) (cond b (global ∷ []) []))) ≡ 0) [ true ↦ refl | false ↦ refl ]

  -- nothing weighs anything in an empty list alone
  nil : (xs : Population) → weigh (λ _. 1) xs ≡ 0 → xs ≡ []
  nil [] h = refl
  nil (x ∷ xs) h = absurd (omega (arith, h))

  none_gone : (k : ℕ) → k ≤ n → gone k ≡ []
  none_gone zero le = gone_start
  none_gone (suc k) le =
      let before = none_gone k (omega (arith, le)) in
      let one : weigh (λ _. 1) (gone k) ≡ 0 = ap (weigh (λ _. 1)) before in
      nil (gone (suc k)) (omega (arith, gone_weight k (λ _. 1), one, none_at k (λ _. 1) (gone k) before (λ e. omega (arith, e, le))))

  -- the seeds go first
  first_gone : (w : InstanceId × InstanceId → ℕ) → weigh w (gone (suc n)) ≡ weigh w seeds
  first_gone w =
      let none : weigh w (gone n) ≡ 0 = ap (weigh w) (none_gone n (omega arith)) in
      let here : weigh w (gone_at s l (suc n) seeds (suc n) (gone n)) ≡ weigh w seeds = ap (λ b. weigh w (cond b seeds (cond (s.parent (suc n) == 0) [] (flat_map (held s l (suc n)) (members (s.parent (suc n)) (gone n)))))) (eq-eqb (suc n) (suc n) refl) in
      omega (arith, gone_weight n w, none, here)

  -- and then what they contain
  later_gone : (k : ℕ) (w : InstanceId × InstanceId → ℕ) → (suc k ≡ suc n → ⊥) → weigh w (gone (suc k)) ≡ weigh w (gone k) + weigh w (cond (s.parent (suc k) == 0) [] (flat_map (held s l (suc k)) (members (s.parent (suc k)) (gone k))))
  later_gone k w apart = gone_weight k w ∙ ap (λ b. weigh w (gone k) + weigh w (cond b seeds (cond (s.parent (suc k) == 0) [] (flat_map (held s l (suc k)) (members (s.parent (suc k)) (gone k)))))) (ne_eqb (suc k) (suc n) apart)

  -- the names that go are some of the old ones
  seeds_less : (w : InstanceId × InstanceId → ℕ) → weigh w seeds ≤ weigh w (in_container (suc n) i old)
  seeds_less w = omega (arith, weigh-map w (λ m. (named (suc n) m, i)) (names_without old new), weigh-map w (λ m. (named (suc n) m, i)) old, without_less (λ m. w (named (suc n) m, i)) old new)

  names_balanced : are_names old ≡ true → are_names new ≡ true → (w : InstanceId × InstanceId → ℕ) → weigh w (in_container (suc n) i new) + weigh w seeds ≡ weigh w (in_container (suc n) i old) + weigh w fresh
  names_balanced p q w =
      let f : List ℕ → InstanceId × InstanceId = λ m. (named (suc n) m, i) in
      omega (arith, weigh-map w f new, weigh-map w f (names_without old new), weigh-map w f old, weigh-map w f (names_without new old), exchanged (λ m. w (f m)) old new p q)

  module _ (was : unwrap_or (l (s.contained (suc n)) i) [] ≡ old) (there : times i (members (s.parent (suc n)) (live_upto s l n)) ≡ 1) where
    at_old : (w : InstanceId × InstanceId → ℕ) → weigh w (held s l (suc n) i) ≡ weigh w (in_container (suc n) i old)
    at_old w = ap (λ ns. weigh w (in_container (suc n) i ns)) was

    -- what goes was live
    pub gone_less : (k m : ℕ) → k + suc n ≡ m → (w : InstanceId × InstanceId → ℕ) → weigh w (gone m) ≤ weigh w (live_upto s l m)
    gone_less k zero e w = absurd (omega (arith, e))
    gone_less zero (suc m) e w =
        let same : n ≡ m = omega (arith, e) in
        subst (λ j. weigh w (gone (suc j)) ≤ weigh w (live_upto s l (suc j))) same
        (omega (arith, first_gone w, seeds_less w, at_old w, live_weight s l n w, weigh_at_least (λ c. weigh w (held s l (suc n) c)) i (members (s.parent (suc n)) (live_upto s l n)) (omega (arith, there))))
    gone_less (suc k) (suc m) e w =
        let before = gone_less k m (omega (arith, e)) in
        let part = block_less (held s l (suc m)) w (s.parent (suc m)) (gone m) (live_upto s l m) (before (of_parent (s.parent (suc m)) (λ c. weigh w (held s l (suc m) c)))) in
        omega (arith, later_gone m w (λ h. omega (arith, h, e)), live_weight s l m w, before w, part)

    module _
        (agree : (e : ℕ) (c : InstanceId) → 0 < e → e < s.count → (e ≡ suc n → ⊥) → l (s.contained e) c ≡ l' (s.contained e) c)
        (beside : (c : InstanceId) → is_same i c ≡ false → l (s.contained (suc n)) c ≡ l' (s.contained (suc n)) c)
        (becomes : unwrap_or (l' (s.contained (suc n)) i) [] ≡ new)
        (old_names : are_names old ≡ true) (new_names : are_names new ≡ true)
        (unknown : AllByRecursion (λ x. (q : RelId) → l q x.0 ≡ None) fresh) where
      early_same : n < s.count → live_upto s l n ≡ live_upto s l' n
      early_same lt = same_live s l l' n (λ e c less _. agree (suc e) c (omega arith) (omega (arith, lt, less)) (λ h. omega (arith, h, less))) 0 n (omega arith)

      turn_balanced : suc n < s.count → (w : InstanceId × InstanceId → ℕ) → weigh w (live_upto s l' (suc n)) + weigh w (gone (suc n)) ≡ weigh w (live_upto s l (suc n)) + weigh w fresh
      turn_balanced lt w =
          let before = early_same (omega (arith, lt)) in
          let early : weigh w (live_upto s l n) ≡ weigh w (live_upto s l' n) = ap (weigh w) before in
          let f : InstanceId → ℕ = λ c. weigh w (held s l' (suc n) c) in
          let parents : weigh f (members (s.parent (suc n)) (live_upto s l n)) ≡ weigh f (members (s.parent (suc n)) (live_upto s l' n)) = ap (λ (live : Population). weigh f (members (s.parent (suc n)) live)) before in
          let now : f i ≡ weigh w (in_container (suc n) i new) = ap (λ ns. weigh w (in_container (suc n) i ns)) becomes in
          let block = weigh_once f (λ c. weigh w (held s l (suc n) c)) i (weigh w seeds) (weigh w fresh) (λ c other. ap (λ o. weigh w (in_container (suc n) c (unwrap_or o []))) (sym (beside c other))) (omega (arith, now, at_old w, names_balanced old_names new_names w)) (members (s.parent (suc n)) (live_upto s l n)) there in
          omega (arith, first_gone w, live_weight s l n w, live_weight s l' n w, early, parents, block)

      fresh_empty : (e p : ℕ) (w : InstanceId × InstanceId → ℕ) → weigh (of_parent p (λ c. weigh w (held s l e c))) fresh ≡ 0
      fresh_empty e p w = weigh_nothing (of_parent p (λ c. weigh w (held s l e c))) fresh (each_weaker (λ (x : InstanceId × InstanceId). (q : RelId) → l q x.0 ≡ None) (λ (x : InstanceId × InstanceId). of_parent p (λ c. weigh w (held s l e c)) x ≡ 0) nothing fresh unknown)
        where
          nothing : (x : InstanceId × InstanceId) → ((q : RelId) → l q x.0 ≡ None) → cond (x.0.entity.0 == p) (weigh w (held s l e x.0)) 0 ≡ 0
          nothing x none =
              ap (λ o. cond (x.0.entity.0 == p) (weigh w (in_container e x.0 (unwrap_or o []))) 0) (none (s.contained e))
              ∙ elim (x.0.entity.0 == p) as (λ b. ◌≡◌ {A = ℕ} (cond b 0 0) 0) [ true ↦ refl | false ↦ refl ]

      -- What is live afterwards with what went weighs what was live with what came.
      pub balanced : (k m : ℕ) → k + suc n ≡ m → m < s.count → (w : InstanceId × InstanceId → ℕ) → weigh w (live_upto s l' m) + weigh w (gone m) ≡ weigh w (live_upto s l m) + weigh w fresh
      balanced k zero e lt w = absurd (omega (arith, e))
      balanced zero (suc m) e lt w =
          let same : n ≡ m = omega (arith, e) in
          subst (λ j. weigh w (live_upto s l' (suc j)) + weigh w (gone (suc j)) ≡ weigh w (live_upto s l (suc j)) + weigh w fresh) same (turn_balanced (omega (arith, lt, e)) w)
      balanced (suc k) (suc m) e lt w =
          let before = balanced k m (omega (arith, e)) (omega (arith, lt)) in
          let p = s.parent (suc m) in
          let other : suc m ≡ suc n → ⊥ = λ h. omega (arith, h, e) in
          let same : weigh (λ c. weigh w (held s l' (suc m) c)) (members p (live_upto s l' m)) ≡ weigh (λ c. weigh w (held s l (suc m) c)) (members p (live_upto s l' m)) =
          weigh_same (λ c. weigh w (held s l' (suc m) c)) (λ c. weigh w (held s l (suc m) c)) (λ c. ap (λ o. weigh w (in_container (suc m) c (unwrap_or o []))) (sym (agree (suc m) c (omega arith) lt other))) (members p (live_upto s l' m)) in
          let block = block_balanced (held s l (suc m)) w p (live_upto s l' m) (gone m) (live_upto s l m) fresh (before (of_parent p (λ c. weigh w (held s l (suc m) c)))) (fresh_empty (suc m) p w) in
          omega (arith, later_gone m w other, live_weight s l m w, live_weight s l' m w, same, before w, block)
