-- What goals look at is marked from the highest rank down.
use Rattle.std.proofs.Common.{◌≡◌, ◌↔◌, ◌⊎◌, inl, inr, ℕ, suc, ◌+◌, ◌<◌, ◌≤◌, Bool, true, false, List, [], ◌∷◌, ◌++◌, length, get_or, take, replicate, Option, None, Some, Contains, refl, sym, ◌∙◌, ap, subst, arith}
use Rattle.std.specs.Prelude.{◌==◌, All, flat_map, if◌then◌else◌}
use Rattle.std.specs.List.{list_any}
use Rattle.std.proofs.lemmas.Bool.{cases_lt, eq-eqb, false≢true}
use Rattle.std.proofs.lemmas.List.{flat_map_more, length-replicate, take_more}
use Rattle.std.proofs.lemmas.List.Elements.{All-contains, All-weaker, Contains-append_cases}
use Rattle.std.proofs.lemmas.List.FromFn.{length-map-range_with_len}
use Rattle.opa_io.proofs.Bools.{same_truth}
use Rattle.opa_model.specs.declared.ids.AttrId.{AttrId}
use Rattle.opa_model.specs.Models.{HasAttribute}
use Rattle.opa_tree.specs.declared.rulebase.Rulebase.{Rulebase}
use Rattle.opa_tree.specs.declared.rules.Rule.{Rule}
use Rattle.opa_tree.specs.Levels.{attributes, highest_rank, level, levels}
use Rattle.opa_tree.specs.Mentions.{is_attr}
use Rattle.opa_tree.specs.Ranks.{rank_at, mentions_of, Reaches, itself, mentioned_by}
use Rattle.opa_tree.specs.Rules.{rule_of}
use Rattle.opa_tree.proofs.LevelLaws.{below_top}
use Rattle.opa_tree.proofs.Members.{none_in, contains_cases}
use Rattle.opa_tree.proofs.RankLaws.{ranks_fall, rule_declared}
use Rattle.opa_tree.proofs.ReachLaws.{reaches_reach, reach_reaches}
use Rattle.opa_mean.proofs.Filtered.{filter_in}
use Rattle.opa_mean.proofs.SlotsAre.{in_attributes}
use Rattle.opa_mean.proofs.goals.Filling.{level_ranked}
use Rattle.opa_rules.specs.Reviewing.Looking.{IsLookedAt, is_looked_at, looked_at_by}
use Rattle.opa_rules.specs.Reviewing.Marks.{told, passed_on, AddsMarks, AreSeen, AreSpread, IsPast}
use Rattle.opa_rules.proofs.reviewing.MarkLaws.{any_some, some_any, any_attr, attr_any, marked_within, none_marked, stays, added, came_from}

-- what is found of one attribute more
pub one_attribute : {X : Type 0} (f : AttrId → List X) (n : ℕ) (before old new : List X) → old ≡ before ++ flat_map f (attributes n) → new ≡ old ++ f (record { 0 = n }) → new ≡ before ++ flat_map f (attributes (n + 1))
one_attribute f n before old new so_far is =
    let next : n + 1 ≡ suc n = omega arith in
    is ∙ ap (λ xs. xs ++ f (record { 0 = n })) so_far ∙ flat_map_more f before (attributes n) (record { 0 = n }) ∙ ap (λ k. before ++ flat_map f (attributes k)) (sym next)

module _ (base : Rulebase) where
  abbrev its : AttrId → List AttrId
  its a = mentions_of (rule_of base.rules a)

  abbrev count : ℕ
  count = length base.model.attributes

  abbrev rank : AttrId → ℕ
  rank a = rank_at base.ranks a

  falls : (a m : AttrId) → Contains (its a) m → rank m < rank a
  falls a m there = ranks_fall count base.rules base.ranks base.sound.attributes_declared base.ranked a m there

  -- ---- the test and the relation

  pub looked_at_tells : (a : AttrId) → (is_looked_at base a ≡ true) ↔ IsLookedAt base a
  looked_at_tells a = (out, back)
    where
      out : is_looked_at base a ≡ true → IsLookedAt base a
      out h =
          let w = any_some (λ g. list_any (is_attr a) (looked_at_by base g)) base.model.goals h in
          (w.0, (w.1.0, reach_reaches base.rules (rank w.0) w.0 a (any_attr a (looked_at_by base w.0) w.1.1)))

      back : IsLookedAt base a → is_looked_at base a ≡ true
      back (g, (goal, reached)) =
          some_any (λ g. list_any (is_attr a) (looked_at_by base g)) base.model.goals g goal
          (attr_any a (looked_at_by base g) (reaches_reach base.rules count base.ranks base.sound.attributes_declared base.ranked g a reached))

  -- ---- one attribute

  passes : (marks : List Bool) (a b : AttrId) → Contains (passed_on base marks a) b → (told marks a ≡ true) × Contains (its a) b
  passes marks a b h = go (told marks a) refl h
    where
      go : (t : Bool) → told marks a ≡ t → Contains (if t then its a else []) b → (told marks a ≡ true) × Contains (its a) b
      go true e there = (e, there)
      go false e there = absurd (none_in b there)

  passes_in : (marks : List Bool) (a b : AttrId) → told marks a ≡ true → Contains (its a) b → Contains (passed_on base marks a) b
  passes_in marks a b e there = subst (λ (t : Bool). Contains (if t then its a else []) b) (sym e) there

  module _ (n : ℕ) (done : List AttrId) (a : AttrId) (old new : List Bool) (at : rank a + 1 ≡ n) (so : AreSpread base n done old) (adds : AddsMarks old (passed_on base old a) new) where
    only_more : (b : AttrId) → (told old b ≡ true) ⊎ Contains (passed_on base old a) b → IsLookedAt base b
    only_more b (inl before) = so.only b before
    only_more b (inr here) = let p = passes old a b here in let seen = so.only a p.0 in (seen.0, (seen.1.0, mentioned_by a b seen.1.1 p.1))

    last_more : (b m : AttrId) → told old b ≡ true → (a ≡ b) ⊎ Contains [] b → Contains (its b) m → HasAttribute base.model m → told new m ≡ true
    last_more b m before (inl same) there declared =
        added old (passed_on base old a) new adds m (subst (λ k. m.0 < k) (sym so.long) declared)
        (passes_in old a m (ap (told old) same ∙ before) (subst (λ (x : AttrId). Contains (its x) m) (sym same) there))
    last_more b m before (inr none) there declared = absurd (none_in b none)

    among_more : (b m : AttrId) → told old b ≡ true → rank b + 1 ≡ n → Contains done b ⊎ Contains (a ∷ []) b → Contains (its b) m → HasAttribute base.model m → told new m ≡ true
    among_more b m before e (inl earlier) there declared = stays old (passed_on base old a) new adds m (so.spread b m before (inr (e, earlier)) there declared)
    among_more b m before e (inr one) there declared = last_more b m before (contains_cases a b [] one) there declared

    not_past : (b : AttrId) → rank b < rank a → IsPast base n (done ++ a ∷ []) b → ⊥
    not_past b low (inl high) = omega (arith, low, high, at)
    not_past b low (inr (e, k)) = omega (arith, low, e, at)

    spread_more_at : (b m : AttrId) → (told old b ≡ true) ⊎ Contains (passed_on base old a) b → IsPast base n (done ++ a ∷ []) b → Contains (its b) m → HasAttribute base.model m → told new m ≡ true
    spread_more_at b m (inl before) (inl high) there declared = stays old (passed_on base old a) new adds m (so.spread b m before (inl high) there declared)
    spread_more_at b m (inl before) (inr (e, k)) there declared = among_more b m before e (Contains-append_cases done (a ∷ []) b k) there declared
    spread_more_at b m (inr here) past there declared = absurd (not_past b (falls a b (passes old a b here).1) past)

    -- the mentions of one more attribute are marked, if it is
    pub spread_more : AreSpread base n (done ++ a ∷ []) new
    spread_more = record {
      long = adds.long ∙ so.long;
      goals = λ g there. stays old (passed_on base old a) new adds g (so.goals g there);
      only = λ b marked. only_more b (came_from old (passed_on base old a) new adds b marked);
      spread = λ b m marked past there declared. spread_more_at b m (came_from old (passed_on base old a) new adds b marked) past there declared;
    }

  -- one more attribute of a level
  pub one_spread : (own : List AttrId) (k : ℕ) (d : AttrId) (old mid new : List Bool) → k < length own
      → ((n : ℕ) → All (λ a. rank_at base.ranks a + 1 ≡ n) own → AreSpread base n [] old → AreSpread base n (take k own) mid)
      → AddsMarks mid (passed_on base mid (get_or own k d)) new
      → (n : ℕ) → All (λ a. rank_at base.ranks a + 1 ≡ n) own → AreSpread base n [] old → AreSpread base n (take (k + 1) own) new
  one_spread own k d old mid new lt so_far adds n all start =
      subst (λ done. AreSpread base n done new) (sym (take_more own k d lt)) (spread_more n (take k own) (get_or own k d) mid new (all k d lt) (so_far n all start) adds)

  -- ---- one level

  -- the attributes of a level are of its rank
  pub level_above : (n : ℕ) (own : List AttrId) → own ≡ level base.ranks count n → All (λ a. rank_at base.ranks a + 1 ≡ n + 1) own
  level_above n own is = subst (λ (xs : List AttrId). All (λ a. rank_at base.ranks a + 1 ≡ n + 1) xs) (sym is) (All-weaker (λ a. rank_at base.ranks a ≡ n) (λ a. rank_at base.ranks a + 1 ≡ n + 1) (λ a e. ap (λ k. k + 1) e) _ (level_ranked base n))

  pub levels_long : (lists : List (List AttrId)) → lists ≡ levels base.ranks count → length lists ≡ highest_rank base.ranks count + 1
  levels_long lists are = ap length are ∙ length-map-range_with_len (level base.ranks count) 0 (highest_rank base.ranks count + 1)

  -- past a whole rank
  pub spread_lower : (n : ℕ) (own : List AttrId) (marks : List Bool) → own ≡ level base.ranks count n → AreSpread base (n + 1) own marks → AreSpread base n [] marks
  spread_lower n own marks is so = record { long = so.long; goals = so.goals; only = so.only; spread = λ b m marked past there declared. so.spread b m marked (higher b marked past) there declared }
    where
      among : (b : AttrId) → rank b ≡ n → b.0 < count → Contains own b
      among b e within = subst (λ (xs : List AttrId). Contains xs b) (sym is) (filter_in (λ x. rank_at base.ranks x == n) (attributes count) b (in_attributes count b within) (eq-eqb (rank b) n e))

      at : (b : AttrId) → told marks b ≡ true → n ≤ rank b → (n < rank b) ⊎ (rank b ≤ n) → IsPast base (n + 1) own b
      at b marked high (inl above) = inl (omega (arith, above))
      at b marked high (inr low) = inr (omega (arith, high, low), among b (omega (arith, high, low)) (subst (λ k. b.0 < k) so.long (marked_within marks b marked)))

      higher : (b : AttrId) → told marks b ≡ true → IsPast base n [] b → IsPast base (n + 1) own b
      higher b marked (inl high) = at b marked high (cases_lt n (rank b))
      higher b marked (inr (e, none)) = absurd (none_in b none)

  -- ---- the start and the end

  -- no attribute has a rank above the highest
  pub spread_first : (top : ℕ) (marks : List Bool) → top ≡ highest_rank base.ranks count + 1 → All (HasAttribute base.model) base.model.goals → AddsMarks (replicate count false) base.model.goals marks → AreSpread base top [] marks
  spread_first top marks is declared adds = record {
    long = adds.long ∙ length-replicate count false;
    goals = λ g there. added start base.model.goals marks adds g (subst (λ k. g.0 < k) (sym (length-replicate count false)) (All-contains (HasAttribute base.model) base.model.goals g declared there)) there;
    only = λ a marked. only_first a (came_from start base.model.goals marks adds a marked);
    spread = λ a m marked past there own. absurd (none_above a marked past);
  }
    where
      start : List Bool
      start = replicate count false

      only_first : (a : AttrId) → (told (replicate count false) a ≡ true) ⊎ Contains base.model.goals a → IsLookedAt base a
      only_first a (inl before) = absurd (false≢true (sym (none_marked count a) ∙ before))
      only_first a (inr goal) = (a, (goal, itself))

      none_above : (a : AttrId) → told marks a ≡ true → IsPast base top [] a → ⊥
      none_above a marked (inl high) =
          let long = adds.long ∙ length-replicate count false in
          let within : a.0 < count = subst (λ k. a.0 < k) long (marked_within marks a marked) in
          let below = below_top base.ranks count a.0 (highest_rank base.ranks count) (rank a) within refl refl in
          omega (arith, high, below, is)
      none_above a marked (inr (e, none)) = none_in a none

  has_rule : (a m : AttrId) → Contains (its a) m → a.0 < count
  has_rule a m there = go (rule_of base.rules a) refl there
    where
      go : (o : Option Rule) → rule_of base.rules a ≡ o → Contains (mentions_of o) m → a.0 < count
      go None e none = absurd (none_in m none)
      go (Some rule) e there = rule_declared count base.rules a rule base.sound.attributes_declared e

  module _ (marks : List Bool) (so : AreSpread base 0 [] marks) where
    reached_marked : (g a : AttrId) → Contains base.model.goals g → Reaches base.rules g a → HasAttribute base.model a → told marks a ≡ true
    reached_marked g _ goal itself declared = so.goals g goal
    reached_marked g _ goal (mentioned_by b c reached there) declared = so.spread b c (reached_marked g b goal reached (has_rule b c there)) (inl (omega arith)) there declared

    pub seen_last : AreSeen base marks
    seen_last = record { right = λ a declared. same_truth _ _ (λ marked. (looked_at_tells a).1 (so.only a marked)) (λ h. let w = (looked_at_tells a).0 h in reached_marked w.0 a w.1.0 w.1.1 declared) }
