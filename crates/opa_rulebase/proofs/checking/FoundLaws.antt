-- Ranks that are found stay found, and tell which attributes are taken away and which are left.
use Rattle.std.proofs.Common.{◌≡◌, ◌≢◌, ◌∙◌, ◌+◌, ◌<◌, ◌≤◌, ◌⊎◌, inl, inr, max, ℕ, zero, suc, arith, Bool, true, false, ◌||◌, List, [], ◌∷◌, length, map, refl, sym, ap, subst, Contains, nat_le}
use Rattle.std.specs.Prelude.{Option, None, Some, slice_get, slice_index_or}
use Rattle.std.specs.List.{list_any}
use Rattle.std.specs.Option.{option_map}
use Rattle.std.proofs.lemmas.Bool.{false≢true, or_right}
use Rattle.std.proofs.lemmas.Option.{slice_get_past, slice_get_within}
use Rattle.opa_model.specs.declared.ids.AttrId.{AttrId}
use Rattle.opa_tree.specs.declared.rules.Rule.{Rule}
use Rattle.opa_tree.specs.Laws.{AreDeclared}
use Rattle.opa_tree.specs.Mentions.{mentions}
use Rattle.opa_tree.specs.Ranks.{mentions_of, rank_at, rank_by, AreRanks}
use Rattle.opa_tree.specs.Rules.{rule_of}
use Rattle.opa_tree.specs.Trees.{highest}
use Rattle.opa_tree.proofs.Members.{none_in, contains_head, contains_tail, contains_cases}
use Rattle.opa_tree.proofs.RankLaws.{rule_declared}
use Rattle.opa_rulebase.specs.Checking.Circles.{stays, IsLeft, IsTaken}
use Rattle.opa_rulebase.specs.Checking.Found.{uses_by, or_zero, rank_found, higher, highest_found, found_by}

module _ {X : Type 0} where
  pub any_more : (f g : X → Bool) (xs : List X) → ((x : X) → f x ≡ true → g x ≡ true) → list_any f xs ≡ true → list_any g xs ≡ true
  any_more f g [] more is = is
  any_more f g (x ∷ xs) more is = here f g x xs more (any_more f g xs more) (f x) refl is
    where
      here : (f g : X → Bool) (x : X) (xs : List X) → ((y : X) → f y ≡ true → g y ≡ true) → (list_any f xs ≡ true → list_any g xs ≡ true) → (t : Bool) → f x ≡ t → (t || list_any f xs) ≡ true → (g x || list_any g xs) ≡ true
      here f g x xs more rest true e h = ap (λ b. b || list_any g xs) (more x e)
      here f g x xs more rest false e h = or_right (g x) (list_any g xs) (rest h)

  pub any_false : (f : X → Bool) (xs : List X) → ((x : X) → Contains xs x → f x ≡ false) → list_any f xs ≡ false
  any_false f [] each = refl
  any_false f (x ∷ xs) each = ap (λ b. b || list_any f xs) (each x (contains_head x xs)) ∙ any_false f xs (λ y h. each y (contains_tail x y xs h))

  pub any_true : (f : X → Bool) (xs : List X) (x : X) → Contains xs x → f x ≡ true → list_any f xs ≡ true
  any_true f [] x h is = absurd (none_in x h)
  any_true f (y ∷ xs) x h is = here f y xs x is (contains_cases y x xs h) (λ there. any_true f xs x there is)
    where
      here : (f : X → Bool) (y : X) (xs : List X) (x : X) → f x ≡ true → (y ≡ x) ⊎ Contains xs x → (Contains xs x → list_any f xs ≡ true) → (f y || list_any f xs) ≡ true
      here f y xs x is (inl e) more = ap (λ b. b || list_any f xs) (ap f e ∙ is)
      here f y xs x is (inr there) more = or_right (f y) (list_any f xs) (more there)

-- an attribute that is left after a round was left before it
pub stays_before : (rules : List Rule) (n : ℕ) (a : AttrId) → stays rules (suc n) a ≡ true → stays rules n a ≡ true
unfolding stays
stays_before rules zero a is = refl
stays_before rules (suc n) a is = any_more (stays rules (suc n)) (stays rules n) (mentions_of (rule_of rules a)) (stays_before rules n) is

-- what is taken away stays away
pub gone : (rules : List Rule) (m n : ℕ) (a : AttrId) → n ≤ m → stays rules n a ≡ false → stays rules m a ≡ false
gone rules zero n a le is = let same : n ≡ 0 = omega (arith, le) in subst (λ k. stays rules k a ≡ false) same is
gone rules (suc m) n a le is = here rules m n a le is (λ within. gone rules m n a within is) (nat_le n m) refl
  where
    later : (rules : List Rule) (m : ℕ) (a : AttrId) (t : Bool) → stays rules (suc m) a ≡ t → stays rules m a ≡ false → stays rules (suc m) a ≡ false
    later rules m a true e before = absurd (false≢true (sym before ∙ stays_before rules m a e))
    later rules m a false e before = e

    here : (rules : List Rule) (m n : ℕ) (a : AttrId) → n ≤ suc m → stays rules n a ≡ false → (n ≤ m → stays rules m a ≡ false) → (t : Bool) → nat_le n m ≡ t → stays rules (suc m) a ≡ false
    here rules m n a le is rest true e = let within : n ≤ m = grind (arith, e) in later rules m a (stays rules (suc m) a) refl (rest within)
    here rules m n a le is rest false e = let same : n ≡ suc m = grind (arith, e, le) in subst (λ k. stays rules k a ≡ false) same is

-- where the highest of several ranks is found, each is found, and is no higher
pub each_found : (f : AttrId → Option ℕ) (ms : List AttrId) (n : ℕ) → highest_found (map f ms) ≡ Some n → (b : AttrId) → Contains ms b → (k : ℕ) × ((f b ≡ Some k) × (k ≤ n))
each_found f [] n is b h = absurd (none_in b h)
each_found f (m ∷ ms) n is b h = here f m ms n b (λ j rest there. each_found f ms j rest b there) (f m) (highest_found (map f ms)) refl refl is (contains_cases m b ms h)
  where
    deeper : (f : AttrId → Option ℕ) (b : AttrId) (n j k : ℕ) → max k j ≡ n → (i : ℕ) × ((f b ≡ Some i) × (i ≤ j)) → (i : ℕ) × ((f b ≡ Some i) × (i ≤ n))
    deeper f b n j k top (i, (is, low)) = (i, (is, omega (arith, low, top)))

    here : (f : AttrId → Option ℕ) (m : AttrId) (ms : List AttrId) (n : ℕ) (b : AttrId) → ((j : ℕ) → highest_found (map f ms) ≡ Some j → Contains ms b → (i : ℕ) × ((f b ≡ Some i) × (i ≤ j)))
        → (x y : Option ℕ) → f m ≡ x → highest_found (map f ms) ≡ y → higher x y ≡ Some n → (m ≡ b) ⊎ Contains ms b → (k : ℕ) × ((f b ≡ Some k) × (k ≤ n))
    here f m ms n b rest None y e others is c = cc
    here f m ms n b rest (Some k) None e others is c = cc
    here f m ms n b rest (Some k) (Some j) e others is (inl same) = let top : max k j ≡ n = cc in (k, (ap f (sym same) ∙ e, omega (arith, top)))
    here f m ms n b rest (Some k) (Some j) e others is (inr more) = let top : max k j ≡ n = cc in deeper f b n j k top (rest j others more)

-- where it isn't found, one of them isn't
pub one_missing : (f : AttrId → Option ℕ) (ms : List AttrId) → highest_found (map f ms) ≡ None → (b : AttrId) × (Contains ms b × (f b ≡ None))
one_missing f [] is = cc
one_missing f (m ∷ ms) is = here f m ms (one_missing f ms) (f m) (highest_found (map f ms)) refl refl is
  where
    deeper : (f : AttrId → Option ℕ) (m : AttrId) (ms : List AttrId) → (b : AttrId) × (Contains ms b × (f b ≡ None)) → (b : AttrId) × (Contains (m ∷ ms) b × (f b ≡ None))
    deeper f m ms (b, (there, is)) = (b, (contains_tail m b ms there, is))

    here : (f : AttrId → Option ℕ) (m : AttrId) (ms : List AttrId) → (highest_found (map f ms) ≡ None → (b : AttrId) × (Contains ms b × (f b ≡ None)))
        → (x y : Option ℕ) → f m ≡ x → highest_found (map f ms) ≡ y → higher x y ≡ None → (b : AttrId) × (Contains (m ∷ ms) b × (f b ≡ None))
    here f m ms rest None y e others is = (m, (contains_head m ms, e))
    here f m ms rest (Some k) None e others is = deeper f m ms (rest others)
    here f m ms rest (Some k) (Some j) e others is = cc

-- more ranks that are found leave the highest one as it is
pub highest_grows : (f g : AttrId → Option ℕ) (ms : List AttrId) (n : ℕ) → ((b : AttrId) (k : ℕ) → f b ≡ Some k → g b ≡ Some k) → highest_found (map f ms) ≡ Some n → highest_found (map g ms) ≡ Some n
highest_grows f g [] n more is = is
highest_grows f g (m ∷ ms) n more is = here f g m ms n more (λ j others. highest_grows f g ms j more others) (f m) (highest_found (map f ms)) refl refl is
  where
    here : (f g : AttrId → Option ℕ) (m : AttrId) (ms : List AttrId) (n : ℕ) → ((b : AttrId) (k : ℕ) → f b ≡ Some k → g b ≡ Some k) → ((j : ℕ) → highest_found (map f ms) ≡ Some j → highest_found (map g ms) ≡ Some j)
        → (x y : Option ℕ) → f m ≡ x → highest_found (map f ms) ≡ y → higher x y ≡ Some n → higher (g m) (highest_found (map g ms)) ≡ Some n
    here f g m ms n more rest None y e others is = cc
    here f g m ms n more rest (Some k) None e others is = cc
    here f g m ms n more rest (Some k) (Some j) e others is = ap (λ x. higher x (highest_found (map g ms))) (more m k e) ∙ ap (higher (Some k)) (rest j others) ∙ is

-- the highest of ranks that are all found
pub highest_is : (f : AttrId → Option ℕ) (g : AttrId → ℕ) (ms : List AttrId) → ((b : AttrId) → f b ≡ Some (g b)) → highest_found (map f ms) ≡ Some (highest (map g ms))
highest_is f g [] each = refl
highest_is f g (m ∷ ms) each = ap (λ x. higher x (highest_found (map f ms))) (each m) ∙ ap (higher (Some (g m))) (highest_is f g ms each)

-- the highest of low ranks is low
pub highest_low : (f : AttrId → Option ℕ) (ms : List AttrId) (n most : ℕ) → ((b : AttrId) (k : ℕ) → f b ≡ Some k → k ≤ most) → highest_found (map f ms) ≡ Some n → n ≤ most
highest_low f [] n most low is = let none : n ≡ 0 = cc in omega (arith, none)
highest_low f (m ∷ ms) n most low is = here f m ms n most low (λ j others. highest_low f ms j most low others) (f m) (highest_found (map f ms)) refl refl is
  where
    here : (f : AttrId → Option ℕ) (m : AttrId) (ms : List AttrId) (n most : ℕ) → ((b : AttrId) (k : ℕ) → f b ≡ Some k → k ≤ most) → ((j : ℕ) → highest_found (map f ms) ≡ Some j → j ≤ most)
        → (x y : Option ℕ) → f m ≡ x → highest_found (map f ms) ≡ y → higher x y ≡ Some n → n ≤ most
    here f m ms n most low rest None y e others is = cc
    here f m ms n most low rest (Some k) None e others is = cc
    here f m ms n most low rest (Some k) (Some j) e others is =
        let top : max k j ≡ n = cc in let first : k ≤ most = low m k e in let more : j ≤ most = rest j others in omega (arith, top, first, more)

-- a rank that is found by others stays so
pub found_grows : (old new : List (Option ℕ)) (u : Option (List AttrId)) (n : ℕ) → ((b : AttrId) (k : ℕ) → rank_found old b ≡ Some k → rank_found new b ≡ Some k) → found_by old u ≡ Some n → found_by new u ≡ Some n
found_grows old new None n more is = is
found_grows old new (Some ms) n more is = here (highest_found (map (rank_found old) ms)) refl is
  where
    here : (y : Option ℕ) → highest_found (map (rank_found old) ms) ≡ y → option_map (λ k. 1 + k) y ≡ Some n → option_map (λ k. 1 + k) (highest_found (map (rank_found new) ms)) ≡ Some n
    here None e is = cc
    here (Some k) e is = ap (option_map (λ j. 1 + j)) (highest_grows (rank_found old) (rank_found new) ms k more e) ∙ is

pub past : (ranks : List (Option ℕ)) (n : ℕ) → n < length ranks → slice_get ranks n ≡ None → ⊥
past [] n lt is = omega (arith, lt)
past (x ∷ ranks) zero lt is = cc
past (x ∷ ranks) (suc n) lt is = past ranks n (omega (arith, lt)) is

pub unranked : (o : Option (Option ℕ)) → or_zero o ≡ None → o ≡ Some None
unranked None is = cc
unranked (Some x) is = ap Some is

module _ (count : ℕ) (rules : List Rule) (ranks : List (Option ℕ)) (declared : AreDeclared count rules) (for_each : length ranks ≡ count) (right : (a : AttrId) (n : ℕ) → slice_get ranks a.0 ≡ Some (Some n) → found_by ranks (uses_by rules a) ≡ Some n) where
  -- an attribute with a rule stands among the ranks
  stands : (a : AttrId) (r : Rule) (n : ℕ) → rule_of rules a ≡ Some r → (o : Option (Option ℕ)) → slice_get ranks a.0 ≡ o → or_zero o ≡ Some n → slice_get ranks a.0 ≡ Some (Some n)
  stands a r n of None e is = let within : a.0 < count = rule_declared count rules a r declared of in absurd (past ranks a.0 (omega (arith, within, for_each)) e)
  stands a r n of (Some x) e is = e ∙ ap Some is

  each_gone : (most : ℕ) (n h : ℕ) (ms : List AttrId) → n ≡ 1 + h → n ≤ most → highest_found (map (rank_found ranks) ms) ≡ Some h
      → ((k : ℕ) (b : AttrId) → k < most → rank_found ranks b ≡ Some k → stays rules (suc k) b ≡ false) → (b : AttrId) → Contains ms b → stays rules n b ≡ false
  each_gone most n h ms top le found below b there = gone_by (each_found (rank_found ranks) ms h found b there)
    where
      gone_by : (k : ℕ) × ((rank_found ranks b ≡ Some k) × (k ≤ h)) → stays rules n b ≡ false
      gone_by (k, (is, low)) = gone rules n (suc k) b (omega (arith, low, top)) (below k b (omega (arith, low, top, le)) is)

  below_rule : (most : ℕ) (a : AttrId) (n : ℕ) (r : Rule) → n ≤ most → rule_of rules a ≡ Some r → found_by ranks (uses_by rules a) ≡ Some n
      → ((k : ℕ) (b : AttrId) → k < most → rank_found ranks b ≡ Some k → stays rules (suc k) b ≡ false) → list_any (stays rules n) (mentions r.expr) ≡ false
  below_rule most a n r le of is below = by (highest_found (map (rank_found ranks) (mentions r.expr))) refl (sym (ap (λ o. found_by ranks (option_map (λ (q : Rule). mentions q.expr) o)) of) ∙ is)
    where
      by : (y : Option ℕ) → highest_found (map (rank_found ranks) (mentions r.expr)) ≡ y → option_map (λ k. 1 + k) (highest_found (map (rank_found ranks) (mentions r.expr))) ≡ Some n → list_any (stays rules n) (mentions r.expr) ≡ false
      by None e h = let bad : option_map (λ k. 1 + k) None ≡ Some n = sym (ap (option_map (λ k. 1 + k)) e) ∙ h in cc
      by (Some k) e h =
          let good : Some (1 + k) ≡ Some n = sym (ap (option_map (λ k. 1 + k)) e) ∙ h in let top : n ≡ 1 + k = cc in
          any_false (stays rules n) (mentions r.expr) (each_gone most n k (mentions r.expr) top le e below)

  taken_step : (most : ℕ) (a : AttrId) (n : ℕ) → n ≤ most → rank_found ranks a ≡ Some n → ((k : ℕ) (b : AttrId) → k < most → rank_found ranks b ≡ Some k → stays rules (suc k) b ≡ false)
      → (o : Option Rule) → rule_of rules a ≡ o → list_any (stays rules n) (mentions_of o) ≡ false
  taken_step most a n le is below None of = refl
  taken_step most a n le is below (Some r) of = below_rule most a n r le of (right a n (stands a r n of (slice_get ranks a.0) refl is)) below

  -- what has a rank is taken away after as many rounds, and one more
  taken_at : (most : ℕ) (a : AttrId) (n : ℕ) → n ≤ most → rank_found ranks a ≡ Some n → stays rules (suc n) a ≡ false
  unfolding stays
  taken_at zero a n le is = taken_step zero a n le is (λ k b lt. absurd (omega (arith, lt))) (rule_of rules a) refl
  taken_at (suc most) a n le is = taken_step (suc most) a n le is (λ k b lt found. taken_at most b k (omega (arith, lt)) found) (rule_of rules a) refl

  pub is_taken : (a : AttrId) (n : ℕ) → rank_found ranks a ≡ Some n → IsTaken rules a
  is_taken a n is = (suc n, taken_at n a n (omega arith) is)

module _ (rules : List Rule) (ranks : List (Option ℕ)) (all : (a : AttrId) → slice_get ranks a.0 ≡ Some None → found_by ranks (uses_by rules a) ≡ None) where
  by_missing : (n : ℕ) (a : AttrId) (r : Rule) → rule_of rules a ≡ Some r → found_by ranks (uses_by rules a) ≡ None
      → ((b : AttrId) → slice_get ranks b.0 ≡ Some None → stays rules n b ≡ true) → list_any (stays rules n) (mentions r.expr) ≡ true
  by_missing n a r of is before = by (highest_found (map (rank_found ranks) (mentions r.expr))) refl (sym (ap (λ o. found_by ranks (option_map (λ (q : Rule). mentions q.expr) o)) of) ∙ is)
    where
      found : (b : AttrId) × (Contains (mentions r.expr) b × (rank_found ranks b ≡ None)) → list_any (stays rules n) (mentions r.expr) ≡ true
      found (b, (there, none)) = any_true (stays rules n) (mentions r.expr) b there (before b (unranked (slice_get ranks b.0) none))

      by : (y : Option ℕ) → highest_found (map (rank_found ranks) (mentions r.expr)) ≡ y → option_map (λ k. 1 + k) (highest_found (map (rank_found ranks) (mentions r.expr))) ≡ None → list_any (stays rules n) (mentions r.expr) ≡ true
      by None e h = found (one_missing (rank_found ranks) (mentions r.expr) e)
      by (Some k) e h = let bad : Some (1 + k) ≡ None = sym (ap (option_map (λ k. 1 + k)) e) ∙ h in cc

  left_step : (n : ℕ) (a : AttrId) → slice_get ranks a.0 ≡ Some None → ((b : AttrId) → slice_get ranks b.0 ≡ Some None → stays rules n b ≡ true)
      → (o : Option Rule) → rule_of rules a ≡ o → list_any (stays rules n) (mentions_of o) ≡ true
  left_step n a none before None of = let bad : found_by ranks None ≡ None = sym (ap (λ o. found_by ranks (option_map (λ (q : Rule). mentions q.expr) o)) of) ∙ all a none in cc
  left_step n a none before (Some r) of = by_missing n a r of (all a none) before

  -- what has no rank is left
  pub is_left : (a : AttrId) → slice_get ranks a.0 ≡ Some None → IsLeft rules a
  unfolding stays
  is_left a none zero = refl
  is_left a none (suc n) = left_step n a none (λ b there. is_left b there n) (rule_of rules a) refl

-- the ranks, where each is found
pub complete_at : (values : List ℕ) (n : ℕ) → or_zero (slice_get (map (λ (v : ℕ). Some v) values) n) ≡ Some (slice_index_or values n 0)
complete_at [] n = refl
complete_at (v ∷ values) zero = refl
complete_at (v ∷ values) (suc n) = complete_at values n

pub within_at : (values : List ℕ) (n : ℕ) → n < length values → slice_get (map (λ (v : ℕ). Some v) values) n ≡ Some (Some (slice_index_or values n 0))
within_at [] n lt = absurd (omega (arith, lt))
within_at (v ∷ values) zero lt = refl
within_at (v ∷ values) (suc n) lt = within_at values n (omega (arith, lt))

module _ (count : ℕ) (rules : List Rule) (values : List ℕ) (length_is : length values ≡ count) (right : (a : AttrId) (n : ℕ) → slice_get (map (λ (v : ℕ). Some v) values) a.0 ≡ Some (Some n) → found_by (map (λ (v : ℕ). Some v) values) (uses_by rules a) ≡ Some n) where
  rank_is : (a : AttrId) (n : ℕ) (o : Option Rule) → rule_of rules a ≡ o → found_by (map (λ (v : ℕ). Some v) values) (option_map (λ r. mentions r.expr) o) ≡ Some n → n ≡ rank_by values o
  rank_is a n None of is = cc
  rank_is a n (Some r) of is =
      let whole : Some (1 + highest (map (rank_at values) (mentions r.expr))) ≡ Some n =
      sym (ap (option_map (λ k. 1 + k)) (highest_is (rank_found (map (λ (v : ℕ). Some v) values)) (rank_at values) (mentions r.expr) (λ b. complete_at values b.0))) ∙ is in
      let same : 1 + highest (map (rank_at values) (mentions r.expr)) ≡ n = cc in sym same

  pub are_ranks : AreRanks count rules values
  are_ranks = record {
    for_each = length_is;
    by_rules = λ a lt. rank_is a (rank_at values a) (rule_of rules a) refl (right a (rank_at values a) (within_at values a.0 (omega (arith, lt, length_is))));
  }
