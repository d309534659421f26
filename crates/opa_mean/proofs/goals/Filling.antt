-- A table of what is free is filled rank by rank.
use Rattle.std.proofs.Common.{◌≡◌, ◌⊎◌, inl, inr, ℕ, ◌+◌, ◌<◌, ◌≤◌, Bool, true, ◌&&◌, List, [], ◌∷◌, ◌++◌, length, get_or, take, Option, None, Some, Contains, refl, sym, ◌∙◌, ap, subst, arith}
use Rattle.std.specs.List.{list_all}
use Rattle.std.specs.Prelude.{slice_set, ◌==◌, All}
use Rattle.std.proofs.lemmas.Bool.{cases_lt, cases_eq, eqb-true, eq-eqb}
use Rattle.std.proofs.lemmas.List.{get_or_past, get_or-set_same, get_or-set_other, take_more}
use Rattle.std.proofs.lemmas.List.Elements.{All-contains_itself, All-weaker, Contains-append_cases}
use Rattle.std.proofs.lemmas.List.FromFn.{get_or-map-range_with_len, length-map-range_with_len}
use Rattle.opa_io.proofs.Bools.{same_truth}
use Rattle.opa_model.specs.declared.ids.AttrId.{AttrId}
use Rattle.opa_tree.specs.declared.rulebase.Rulebase.{Rulebase}
use Rattle.opa_tree.specs.declared.rules.Rule.{Rule}
use Rattle.opa_tree.specs.Levels.{attributes, highest_rank, level, levels}
use Rattle.opa_tree.proofs.LevelLaws.{below_top}
use Rattle.opa_tree.specs.Mentions.{mentioned, mentions}
use Rattle.opa_tree.specs.Ranks.{rank_at, mentions_of}
use Rattle.opa_tree.specs.Rules.{rule_of}
use Rattle.opa_tree.proofs.RankLaws.{ranks_fall}
use Rattle.opa_tree.proofs.Members.{none_in, contains_cases}
use Rattle.opa_tree.proofs.LawsHold.{mentions_are_each_once_holds}
use Rattle.opa_mean.specs.Frees.{is_free, rule_is_free}
use Rattle.opa_mean.specs.Given.{base_of}
use Rattle.opa_mean.proofs.Filtered.{filter_in, filter_out}
use Rattle.opa_mean.proofs.SlotsAre.{in_attributes, out_attributes}
use Rattle.opa_mean.specs.Goals.Freedom.{never_asks}
use Rattle.opa_mean.specs.Goals.Tables.{free_by, told_free, IsDone, AreFrees, AreFreesUpTo}
use Rattle.opa_mean.proofs.goals.Reaching.{each_passes, all_pass, all_alike, never_by, undeclared_never_asks}

-- what a tree mentions and its mentions pass alike
all_mentioned : (p : AttrId → Bool) (rule : Rule) → list_all p (mentioned rule.expr) ≡ list_all p (mentions rule.expr)
all_mentioned p rule = same_truth _ _
    (λ h. all_pass p (mentions rule.expr) (λ a there. each_passes p (mentioned rule.expr) h a (((mentions_are_each_once_holds rule.expr).1 a).0 there)))
    (λ h. all_pass p (mentioned rule.expr) (λ a there. each_passes p (mentions rule.expr) h a (((mentions_are_each_once_holds rule.expr).1 a).1 there)))

module _ (r : Rulebase) where
  abbrev Upto : ℕ → List AttrId → List Bool → Type 0
  Upto n done free = AreFreesUpTo (base_of r) n done free

  abbrev count : ℕ
  count = length r.model.attributes

  abbrev top : ℕ
  top = highest_rank r.ranks count

  -- by the table, where it tells of all of lower rank
  by_table : (done : List AttrId) (free : List Bool) (a : AttrId) → Upto (rank_at r.ranks a) done free → free_by free (rule_of r.rules a) ≡ never_asks (base_of r) a
  by_table done free a upto = go (rule_of r.rules a) refl ∙ sym (never_by r a)
    where
      lower : (m : AttrId) → Contains (mentions_of (rule_of r.rules a)) m → told_free free m ≡ never_asks (base_of r) m
      lower m there = upto.right m (inl (ranks_fall count r.rules r.ranks r.sound.attributes_declared r.ranked a m there))

      go : (o : Option Rule) → rule_of r.rules a ≡ o → free_by free o ≡ (rule_is_free (rule_of r.rules a) && list_all (never_asks (base_of r)) (mentions_of (rule_of r.rules a)))
      go None e = sym (ap (λ o. rule_is_free o && list_all (never_asks (base_of r)) (mentions_of o)) e)
      go (Some rule) e =
          ap (λ b. is_free rule.expr && b) (all_mentioned (told_free free) rule ∙ all_alike (told_free free) (never_asks (base_of r)) (mentions rule.expr) (λ m there. lower m (subst (λ o. Contains (mentions_of o) m) (sym e) there)))
          ∙ sym (ap (λ o. rule_is_free o && list_all (never_asks (base_of r)) (mentions_of o)) e)

  -- one more attribute
  pub put_one : (a : AttrId) (done : List AttrId) (free new : List Bool) (own : Bool) → Upto (rank_at r.ranks a) done free → a.0 < length free → own ≡ free_by free (rule_of r.rules a) → new ≡ slice_set free a.0 own → Upto (rank_at r.ranks a) (done ++ a ∷ []) new
  put_one a done free new own upto lt is same = record { right = λ b has. go b has (cases_eq b.0 a.0) }
    where
      earlier : (b : AttrId) → IsDone (base_of r) (rank_at r.ranks a) (done ++ a ∷ []) b → (b.0 ≡ a.0 → ⊥) → IsDone (base_of r) (rank_at r.ranks a) done b
      earlier b (inl low) other = inl low
      earlier b (inr there) other = at (Contains-append_cases done (a ∷ []) b there)
        where
          last : (a ≡ b) ⊎ Contains [] b → IsDone (base_of r) (rank_at r.ranks a) done b
          last (inl e) = absurd (other (ap (λ (x : AttrId). x.0) (sym e)))
          last (inr none) = absurd (none_in b none)

          at : Contains done b ⊎ Contains (a ∷ []) b → IsDone (base_of r) (rank_at r.ranks a) done b
          at (inl before) = inr before
          at (inr one) = last (contains_cases a b [] one)

      go : (b : AttrId) → IsDone (base_of r) (rank_at r.ranks a) (done ++ a ∷ []) b → (b.0 ≡ a.0) ⊎ (b.0 ≡ a.0 → ⊥) → told_free new b ≡ never_asks (base_of r) b
      go b has (inl e) =
          let one : a ≡ b = ap (λ (k : ℕ). let x : AttrId = record { 0 = k } in x) (sym e) in
          ap (λ xs. get_or xs b.0 true) same ∙ ap (λ k. get_or (slice_set free a.0 own) k true) e ∙ get_or-set_same free a.0 own true lt ∙ is ∙ by_table done free a upto ∙ ap (never_asks (base_of r)) one
      go b has (inr other) = ap (λ xs. get_or xs b.0 true) same ∙ get_or-set_other free a.0 b.0 own true other ∙ upto.right b (earlier b has other)

  -- one more attribute of a level, all of which are of one rank
  pub one_told : (own : List AttrId) (k : ℕ) (d : AttrId) (old free new : List Bool) → k < length own
      → ((rank : ℕ) → All (λ a. rank_at r.ranks a ≡ rank) own → Upto rank [] old → Upto rank (take k own) free)
      → ((before : List AttrId) → Upto (rank_at r.ranks (get_or own k d)) before free → Upto (rank_at r.ranks (get_or own k d)) (before ++ get_or own k d ∷ []) new)
      → (rank : ℕ) → All (λ a. rank_at r.ranks a ≡ rank) own → Upto rank [] old → Upto rank (take (k + 1) own) new
  one_told own k d old free new lt so_far step rank all start =
      let is : rank_at r.ranks (get_or own k d) ≡ rank = all k d lt in
      let next : take (k + 1) own ≡ take k own ++ get_or own k d ∷ [] = take_more own k d lt in
      let more : Upto rank (take k own) free → Upto rank (take k own ++ get_or own k d ∷ []) new
      = subst (λ n. Upto n (take k own) free → Upto n (take k own ++ get_or own k d ∷ []) new) is (step (take k own)) in
      subst (λ done. Upto rank done new) (sym next) (more (so_far rank all start))

  -- the attributes of a level are declared, and of its rank
  pub level_declared : (n : ℕ) → All (λ a. a.0 < count) (level r.ranks count n)
  level_declared n = All-weaker (Contains (level r.ranks count n)) (λ a. a.0 < count) (λ a there. out_attributes count a (filter_out (λ x. rank_at r.ranks x == n) (attributes count) a there).0) _ (All-contains_itself (level r.ranks count n))

  pub level_ranked : (n : ℕ) → All (λ a. rank_at r.ranks a ≡ n) (level r.ranks count n)
  level_ranked n = All-weaker (Contains (level r.ranks count n)) (λ a. rank_at r.ranks a ≡ n) (λ a there. eqb-true (rank_at r.ranks a) n (filter_out (λ x. rank_at r.ranks x == n) (attributes count) a there).1) _ (All-contains_itself (level r.ranks count n))

  -- what a loop over the levels finds
  pub level_at : (lists : List (List AttrId)) (n : ℕ) (own : List AttrId) → lists ≡ levels r.ranks count → n < length lists → own ≡ get_or lists n own → own ≡ level r.ranks count n
  level_at lists n own are lt at =
      let long : length lists ≡ top + 1 = ap length are ∙ length-map-range_with_len (level r.ranks count) 0 (top + 1) in
      at ∙ ap (λ xs. get_or xs n own) are ∙ get_or-map-range_with_len (level r.ranks count) 0 (top + 1) n n own (omega (arith, lt, long)) (omega arith)

  -- a whole rank
  pub next_rank : (n : ℕ) (own : List AttrId) (free : List Bool) → own ≡ level r.ranks count n → length free ≡ count → Upto n own free → Upto (n + 1) [] free
  next_rank n own free is long upto = record { right = λ b done. go b done }
    where
      past : (b : AttrId) → count ≤ b.0 → told_free free b ≡ never_asks (base_of r) b
      past b high = get_or_past free b.0 true (omega (arith, high, long)) ∙ sym (undeclared_never_asks r b high)

      among : (b : AttrId) → rank_at r.ranks b ≡ n → b.0 < count → Contains own b
      among b e within = subst (λ (xs : List AttrId). Contains xs b) (sym is) (filter_in (λ x. rank_at r.ranks x == n) (attributes count) b (in_attributes count b within) (eq-eqb (rank_at r.ranks b) n e))

      at : (b : AttrId) → rank_at r.ranks b ≤ n → (b.0 < count) ⊎ (count ≤ b.0) → (rank_at r.ranks b < n) ⊎ (n ≤ rank_at r.ranks b) → told_free free b ≡ never_asks (base_of r) b
      at b low (inr high) other = past b high
      at b low (inl within) (inl less) = upto.right b (inl less)
      at b low (inl within) (inr more) = upto.right b (inr (among b (omega (arith, low, more)) within))

      go : (b : AttrId) → IsDone (base_of r) (n + 1) [] b → told_free free b ≡ never_asks (base_of r) b
      go b (inl low) = at b (omega (arith, low)) (cases_lt b.0 count) (cases_lt (rank_at r.ranks b) n)
      go b (inr none) = absurd (none_in b none)

  -- before the first rank nothing is told
  pub at_first : (free : List Bool) → Upto 0 [] free
  at_first free = record { right = λ b done. go b done }
    where
      go : (b : AttrId) → IsDone (base_of r) 0 [] b → told_free free b ≡ never_asks (base_of r) b
      go b (inl low) = absurd (omega (arith, low))
      go b (inr none) = absurd (none_in b none)

  -- past all ranks everything is told
  pub at_last : (lists : List (List AttrId)) (n : ℕ) (free : List Bool) → lists ≡ levels r.ranks count → length lists ≤ n → Upto n [] free → AreFrees (base_of r) free
  at_last lists n free are past upto = record { right = λ b. upto.right b (inl (low b (cases_lt b.0 count))) }
    where
      long : length lists ≡ top + 1
      long = ap length are ∙ length-map-range_with_len (level r.ranks count) 0 (top + 1)

      low : (b : AttrId) → (b.0 < count) ⊎ (count ≤ b.0) → rank_at r.ranks b < n
      low b (inl within) = let below = below_top r.ranks count b.0 top (rank_at r.ranks b) within refl refl in omega (arith, below, past, long)
      low b (inr high) = let none = get_or_past r.ranks b.0 0 (omega (arith, high, r.ranked.for_each)) in omega (arith, none, past, long)
