-- What rests on no answer is found rank by rank.
use Rattle.std.proofs.Common.{◌≡◌, ◌↔◌, ◌⊎◌, inl, inr, ℕ, ◌+◌, ◌<◌, ◌≤◌, Bool, true, false, ◌&&◌, List, [], ◌∷◌, ◌++◌, length, get_or, take, Option, None, Some, Contains, refl, sym, ◌∙◌, ap, subst, arith}
use Rattle.std.specs.List.{list_all}
use Rattle.std.specs.Prelude.{slice_set, ◌==◌, All}
use Rattle.std.proofs.lemmas.Bool.{and_parts, and_from, cases_lt, cases_eq, eq-eqb, eqb-true, false≢true}
use Rattle.std.proofs.lemmas.List.{get_or_past, get_or-set_same, get_or-set_other, take_more}
use Rattle.std.proofs.lemmas.List.Elements.{Contains-append_cases}
use Rattle.std.proofs.lemmas.List.FromFn.{length-map-range_with_len}
use Rattle.opa_io.proofs.Bools.{same_truth}
use Rattle.opa_model.specs.declared.ids.AttrId.{AttrId}
use Rattle.opa_model.specs.declared.ids.RelId.{RelId}
use Rattle.opa_tree.specs.declared.rulebase.Rulebase.{Rulebase}
use Rattle.opa_tree.specs.declared.rules.Rule.{Rule}
use Rattle.opa_tree.specs.FirstOnes.{first_ones}
use Rattle.opa_tree.specs.Levels.{attributes, highest_rank, level, levels}
use Rattle.opa_tree.specs.Mentions.{mentions}
use Rattle.opa_tree.specs.Ranks.{rank_at, mentions_of, Reaches, itself, mentioned_by}
use Rattle.opa_tree.specs.Rules.{rule_of}
use Rattle.opa_tree.proofs.LevelLaws.{below_top}
use Rattle.opa_tree.proofs.Members.{none_in, contains_cases}
use Rattle.opa_tree.proofs.RankLaws.{ranks_fall, rule_declared}
use Rattle.opa_tree.proofs.ReachLaws.{reaches_reach, reach_reaches, reaches_through}
use Rattle.opa_mean.proofs.Filtered.{filter_in}
use Rattle.opa_mean.proofs.SlotsAre.{in_attributes}
use Rattle.opa_mean.proofs.goals.Reaching.{each_passes, all_pass, all_alike}
use Rattle.opa_rules.specs.Describing.Ranges.{is_rel, ranged}
use Rattle.opa_rules.specs.Reviewing.Looking.{IsSettled, goes_over_none, is_settled, looked_at_by}
use Rattle.opa_rules.specs.Reviewing.Marks.{told, settled_by, AreSettled, AreSettledUpTo, IsDone}

module _ (base : Rulebase) where
  abbrev its : AttrId → List AttrId
  its a = mentions_of (rule_of base.rules a)

  abbrev count : ℕ
  count = length base.model.attributes

  abbrev top : ℕ
  top = highest_rank base.ranks count

  abbrev rank : AttrId → ℕ
  rank a = rank_at base.ranks a

  -- no rule of what it reaches goes over a list
  abbrev AllOver : AttrId → Type 0
  AllOver a = (m : AttrId) → Reaches base.rules a m → goes_over_none (rule_of base.rules m) ≡ true

  settled_over : (a : AttrId) → is_settled base a ≡ true → AllOver a
  settled_over a h m reached = each_passes (λ m. goes_over_none (rule_of base.rules m)) (looked_at_by base a) h m (reaches_reach base.rules count base.ranks base.sound.attributes_declared base.ranked a m reached)

  over_settled : (a : AttrId) → AllOver a → is_settled base a ≡ true
  over_settled a all = all_pass (λ m. goes_over_none (rule_of base.rules m)) (looked_at_by base a) (λ m there. all m (reach_reaches base.rules (rank a) a m there))

  -- what is reached is the attribute itself, or reached from what its rule mentions
  first_step : (a c : AttrId) → Reaches base.rules a c → (a ≡ c) ⊎ ((m : AttrId) × (Contains (its a) m × Reaches base.rules m c))
  first_step a _ itself = inl refl
  first_step a _ (mentioned_by b c reached there) = go (first_step a b reached)
    where
      go : (a ≡ b) ⊎ ((m : AttrId) × (Contains (its a) m × Reaches base.rules m b)) → (a ≡ c) ⊎ ((m : AttrId) × (Contains (its a) m × Reaches base.rules m c))
      go (inl e) = inr (c, (subst (λ (x : AttrId). Contains (its x) c) (sym e) there, itself))
      go (inr k) = inr (k.0, (k.1.0, mentioned_by b c k.1.1 there))

  over_from : (a : AttrId) → goes_over_none (rule_of base.rules a) ≡ true → ((m : AttrId) → Contains (its a) m → AllOver m) → AllOver a
  over_from a own rest c reached = go (first_step a c reached)
    where
      go : (a ≡ c) ⊎ ((m : AttrId) × (Contains (its a) m × Reaches base.rules m c)) → goes_over_none (rule_of base.rules c) ≡ true
      go (inl e) = sym (ap (λ (x : AttrId). goes_over_none (rule_of base.rules x)) e) ∙ own
      go (inr k) = rest k.0 k.1.0 c k.1.1

  -- by the rule, and by what it mentions
  settled_by_rule : (a : AttrId) → is_settled base a ≡ (goes_over_none (rule_of base.rules a) && list_all (is_settled base) (its a))
  settled_by_rule a = same_truth _ _
      (λ h. let all = settled_over a h in
      and_from _ _ (all a itself) (all_pass (is_settled base) (its a) (λ m there. over_settled m (λ c reached. all c (reaches_through base.rules a m c there reached)))))
      (λ h. let both = and_parts _ _ h in
      over_settled a (over_from a both.0 (λ m there. settled_over m (each_passes (is_settled base) (its a) both.1 m there))))

  -- an attribute that isn't declared has no rule
  no_rule : (a : AttrId) → count ≤ a.0 → rule_of base.rules a ≡ None
  no_rule a past = go (rule_of base.rules a) refl
    where
      go : (o : Option Rule) → rule_of base.rules a ≡ o → o ≡ None
      go None e = refl
      go (Some rule) e = let within = rule_declared count base.rules a rule base.sound.attributes_declared e in absurd (omega (arith, within, past))

  undeclared : (a : AttrId) → count ≤ a.0 → is_settled base a ≡ false
  undeclared a past = settled_by_rule a ∙ ap (λ o. goes_over_none o && list_all (is_settled base) (mentions_of o)) (no_rule a past)

  -- ---- the test and the relation

  none_ranged : (xs : List RelId) → (length (first_ones is_rel xs) == 0) ≡ true → xs ≡ []
  none_ranged [] h = refl
  none_ranged (x ∷ xs) h = let none : length (first_ones is_rel (x ∷ xs)) ≡ 0 = eqb-true (length (first_ones is_rel (x ∷ xs))) 0 h in absurd (omega (arith, none))

  over_rule : (o : Option Rule) → goes_over_none o ≡ true → (rule : Rule) × ((o ≡ Some rule) × (ranged rule.expr ≡ []))
  over_rule None h = absurd (false≢true h)
  over_rule (Some rule) h = (rule, (refl, none_ranged (ranged rule.expr) h))

  rule_over : (o : Option Rule) (rule : Rule) → o ≡ Some rule → ranged rule.expr ≡ [] → goes_over_none o ≡ true
  rule_over o rule is none = ap goes_over_none is ∙ ap (λ xs. length (first_ones is_rel xs) == 0) none

  pub settled_tells : (a : AttrId) → (is_settled base a ≡ true) ↔ IsSettled base a
  settled_tells a = (
    λ h m reached. over_rule (rule_of base.rules m) (settled_over a h m reached),
    λ so. over_settled a (λ m reached. let w = so m reached in rule_over (rule_of base.rules m) w.0 w.1.0 w.1.1),
  )

  -- ---- one attribute

  abbrev Upto : ℕ → List AttrId → List Bool → Type 0
  Upto n done marks = AreSettledUpTo base n done marks

  -- by the table, where it tells of all of lower rank
  by_table : (done : List AttrId) (marks : List Bool) (a : AttrId) → Upto (rank a) done marks → settled_by marks (rule_of base.rules a) ≡ is_settled base a
  by_table done marks a upto = go (rule_of base.rules a) refl ∙ sym (settled_by_rule a)
    where
      lower : (m : AttrId) → Contains (its a) m → told marks m ≡ is_settled base m
      lower m there = upto.right m (inl (ranks_fall count base.rules base.ranks base.sound.attributes_declared base.ranked a m there))

      go : (o : Option Rule) → rule_of base.rules a ≡ o → settled_by marks o ≡ (goes_over_none (rule_of base.rules a) && list_all (is_settled base) (its a))
      go None e = sym (ap (λ o. goes_over_none o && list_all (is_settled base) (mentions_of o)) e)
      go (Some rule) e =
          ap (λ b. goes_over_none (Some rule) && b) (all_alike (told marks) (is_settled base) (mentions rule.expr) (λ m there. lower m (subst (λ o. Contains (mentions_of o) m) (sym e) there)))
          ∙ sym (ap (λ o. goes_over_none o && list_all (is_settled base) (mentions_of o)) e)

  -- one more attribute
  pub put_one : (a : AttrId) (done : List AttrId) (marks new : List Bool) (own : Bool) → Upto (rank a) done marks → a.0 < length marks → own ≡ settled_by marks (rule_of base.rules a) → new ≡ slice_set marks a.0 own → Upto (rank a) (done ++ a ∷ []) new
  put_one a done marks new own upto lt is same = record { right = λ b has. go b has (cases_eq b.0 a.0) }
    where
      earlier : (b : AttrId) → IsDone base (rank a) (done ++ a ∷ []) b → (b.0 ≡ a.0 → ⊥) → IsDone base (rank a) done b
      earlier b (inl low) other = inl low
      earlier b (inr there) other = at (Contains-append_cases done (a ∷ []) b there)
        where
          last : (a ≡ b) ⊎ Contains [] b → IsDone base (rank a) done b
          last (inl e) = absurd (other (ap (λ (x : AttrId). x.0) (sym e)))
          last (inr none) = absurd (none_in b none)

          at : Contains done b ⊎ Contains (a ∷ []) b → IsDone base (rank a) done b
          at (inl before) = inr before
          at (inr one) = last (contains_cases a b [] one)

      go : (b : AttrId) → IsDone base (rank a) (done ++ a ∷ []) b → (b.0 ≡ a.0) ⊎ (b.0 ≡ a.0 → ⊥) → told new b ≡ is_settled base b
      go b has (inl e) =
          let one : a ≡ b = ap (λ (k : ℕ). let x : AttrId = record { 0 = k } in x) (sym e) in
          ap (λ xs. get_or xs b.0 false) same ∙ ap (λ k. get_or (slice_set marks a.0 own) k false) e ∙ get_or-set_same marks a.0 own false lt ∙ is ∙ by_table done marks a upto ∙ ap (is_settled base) one
      go b has (inr other) = ap (λ xs. get_or xs b.0 false) same ∙ get_or-set_other marks a.0 b.0 own false other ∙ upto.right b (earlier b has other)

  -- one more attribute of a level, all of which are of one rank
  pub one_told : (own : List AttrId) (k : ℕ) (d : AttrId) (old marks new : List Bool) → k < length own
      → ((n : ℕ) → All (λ a. rank_at base.ranks a ≡ n) own → Upto n [] old → Upto n (take k own) marks)
      → ((before : List AttrId) → Upto (rank_at base.ranks (get_or own k d)) before marks → Upto (rank_at base.ranks (get_or own k d)) (before ++ get_or own k d ∷ []) new)
      → (n : ℕ) → All (λ a. rank_at base.ranks a ≡ n) own → Upto n [] old → Upto n (take (k + 1) own) new
  one_told own k d old marks new lt so_far step n all start =
      let more : Upto n (take k own) marks → Upto n (take k own ++ get_or own k d ∷ []) new
      = subst (λ m. Upto m (take k own) marks → Upto m (take k own ++ get_or own k d ∷ []) new) (all k d lt) (step (take k own)) in
      subst (λ done. Upto n done new) (sym (take_more own k d lt)) (more (so_far n all start))

  -- ---- the levels

  -- a whole rank
  pub next_rank : (n : ℕ) (own : List AttrId) (marks : List Bool) → own ≡ level base.ranks count n → length marks ≡ count → Upto n own marks → Upto (n + 1) [] marks
  next_rank n own marks is long upto = record { right = λ b done. go b done }
    where
      past : (b : AttrId) → count ≤ b.0 → told marks b ≡ is_settled base b
      past b high = get_or_past marks b.0 false (omega (arith, high, long)) ∙ sym (undeclared b high)

      among : (b : AttrId) → rank_at base.ranks b ≡ n → b.0 < count → Contains own b
      among b e within = subst (λ (xs : List AttrId). Contains xs b) (sym is) (filter_in (λ x. rank_at base.ranks x == n) (attributes count) b (in_attributes count b within) (eq-eqb (rank_at base.ranks b) n e))

      at : (b : AttrId) → rank_at base.ranks b ≤ n → (b.0 < count) ⊎ (count ≤ b.0) → (rank_at base.ranks b < n) ⊎ (n ≤ rank_at base.ranks b) → told marks b ≡ is_settled base b
      at b low (inr high) other = past b high
      at b low (inl within) (inl less) = upto.right b (inl less)
      at b low (inl within) (inr more) = upto.right b (inr (among b (omega (arith, low, more)) within))

      go : (b : AttrId) → IsDone base (n + 1) [] b → told marks b ≡ is_settled base b
      go b (inl low) = at b (omega (arith, low)) (cases_lt b.0 count) (cases_lt (rank_at base.ranks b) n)
      go b (inr none) = absurd (none_in b none)

  -- before the first rank nothing is told
  pub at_first : (marks : List Bool) → Upto 0 [] marks
  at_first marks = record { right = λ b done. go b done }
    where
      go : (b : AttrId) → IsDone base 0 [] b → told marks b ≡ is_settled base b
      go b (inl low) = absurd (omega (arith, low))
      go b (inr none) = absurd (none_in b none)

  -- past all ranks everything is told
  pub at_last : (lists : List (List AttrId)) (n : ℕ) (marks : List Bool) → lists ≡ levels base.ranks count → length lists ≤ n → Upto n [] marks → AreSettled base marks
  at_last lists n marks are past upto = record { right = λ b. upto.right b (inl (low b (cases_lt b.0 count))) }
    where
      long : length lists ≡ top + 1
      long = ap length are ∙ length-map-range_with_len (level base.ranks count) 0 (top + 1)

      low : (b : AttrId) → (b.0 < count) ⊎ (count ≤ b.0) → rank_at base.ranks b < n
      low b (inl within) = let below = below_top base.ranks count b.0 top (rank_at base.ranks b) within refl refl in omega (arith, below, past, long)
      low b (inr high) = let none = get_or_past base.ranks b.0 0 (omega (arith, high, base.ranked.for_each)) in omega (arith, none, past, long)
