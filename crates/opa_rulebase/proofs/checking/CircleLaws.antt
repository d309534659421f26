-- Where a walk goes on, and where it comes again.
use Rattle.std.proofs.Common.{◌≡◌, ◌≢◌, ◌∙◌, ◌+◌, ◌<◌, ◌⊎◌, inl, inr, ℕ, zero, suc, arith, Bool, true, false, not, cond, List, [], ◌∷◌, ◌++◌, length, map, refl, sym, ap, subst, Contains, All}
use Rattle.std.specs.Prelude.{Option, None, Some, is_some, find, slice_get}
use Rattle.std.specs.Option.{option_map}
use Rattle.std.proofs.lemmas.Bool.{false≢true}
use Rattle.std.proofs.lemmas.Option.{slice_get_within}
use Rattle.std.proofs.lemmas.List.Elements.{All-nil, All-cons}
use Rattle.opa_model.specs.declared.ids.AttrId.{AttrId}
use Rattle.opa_tree.specs.declared.rules.Rule.{Rule}
use Rattle.opa_tree.specs.Mentions.{mentions}
use Rattle.opa_tree.specs.Ranks.{mentions_of}
use Rattle.opa_tree.specs.Rules.{rule_of}
use Rattle.opa_tree.proofs.Members.{none_in, contains_head, contains_tail, contains_cases}
use Rattle.opa_rulebase.specs.Checking.Circles.{IsLeft, IsTaken, IsFirstLeft}
use Rattle.opa_rulebase.specs.Checking.Found.{uses_by, or_zero, rank_found, highest_found, found_by, AreUses, AreFound, AreAll}
use Rattle.opa_rulebase.specs.Checking.Settled.{AreSettled, IsOpen}
use Rattle.opa_rulebase.proofs.checking.FoundLaws.{one_missing, is_taken, is_left, unranked, past}

-- where the first that passes stands
pub record IsFound {X : Type 0} (p : X → Bool) (xs : List X) (x : X) : Type 0 where
  pub before : List X
  pub after : List X
  pub is : xs ≡ before ++ x ∷ after
  pub passes : p x ≡ true
  pub others : All (λ y. p y ≡ false) before

module _ {X : Type 0} (p : X → Bool) where
  pub find_splits : (xs : List X) (x : X) → find p xs ≡ Some x → IsFound p xs x
  find_splits [] x h = cc
  find_splits (y ∷ xs) x h = here y xs x (find_splits xs x) (p y) refl h
    where
      later : (y : X) (xs : List X) (x : X) → p y ≡ false → IsFound p xs x → IsFound p (y ∷ xs) x
      later y xs x e f = record { before = y ∷ f.before; after = f.after; is = ap (λ ys. y ∷ ys) f.is; passes = f.passes; others = All-cons (λ z. p z ≡ false) y f.before e f.others }

      here : (y : X) (xs : List X) (x : X) → (find p xs ≡ Some x → IsFound p xs x) → (t : Bool) → p y ≡ t → cond t (Some y) (find p xs) ≡ Some x → IsFound p (y ∷ xs) x
      here y xs x rest true e h =
          let same : y ≡ x = cc in
          subst (λ z. IsFound p (y ∷ xs) z) same (record { before = []; after = xs; is = refl; passes = e; others = All-nil (λ z. p z ≡ false) })
      here y xs x rest false e h = later y xs x e (rest h)

  pub find_has : (xs : List X) (x : X) → Contains xs x → p x ≡ true → find p xs ≡ None → ⊥
  find_has [] x h is none = none_in x h
  find_has (y ∷ xs) x h is none = here y xs x is (λ there e. find_has xs x there is e) (contains_cases y x xs h) (p y) refl none
    where
      here : (y : X) (xs : List X) (x : X) → p x ≡ true → (Contains xs x → find p xs ≡ None → ⊥) → (y ≡ x) ⊎ Contains xs x → (t : Bool) → p y ≡ t → cond t (Some y) (find p xs) ≡ None → ⊥
      here y xs x is rest c true e none = cc
      here y xs x is rest (inl same) false e none = false≢true (sym e ∙ ap p same ∙ is)
      here y xs x is rest (inr there) false e none = rest there none

abbrev open_test : List (Option ℕ) → AttrId → Bool
open_test ranks b = not (is_some (rank_found ranks b))

some_none : (n : ℕ) → Some n ≡ None → ⊥
some_none n h = cc

pub is_none : (o : Option ℕ) → not (is_some o) ≡ true → o ≡ None
is_none None h = refl
is_none (Some n) h = absurd (false≢true h)

pub is_known : (o : Option ℕ) → not (is_some o) ≡ false → (n : ℕ) × (o ≡ Some n)
is_known None h = absurd (false≢true (sym h))
is_known (Some n) h = (n, refl)

none_passes : (o : Option ℕ) → o ≡ None → not (is_some o) ≡ true
none_passes None h = refl
none_passes (Some n) h = cc

module _ (rules : List Rule) (uses : List (Option (List AttrId))) (ranks : List (Option ℕ)) (settled : AreSettled rules uses ranks) where
  pub within : (a : AttrId) (n : Option ℕ) → slice_get ranks a.0 ≡ Some n → a.0 < settled.count
  within a n is = let lt : a.0 < length ranks = slice_get_within ranks a.0 n is in omega (arith, lt, settled.found.for_each, settled.used.for_each)

  use_at : (a : AttrId) (n : Option ℕ) → slice_get ranks a.0 ≡ Some n → slice_get uses a.0 ≡ Some (uses_by rules a)
  use_at a n is = settled.used.by_rules a (within a n is)

  pub right_by : (a : AttrId) (n : ℕ) → slice_get ranks a.0 ≡ Some (Some n) → found_by ranks (uses_by rules a) ≡ Some n
  right_by a n is = settled.found.right a n (uses_by rules a) is (use_at a (Some n) is)

  pub done_by : (a : AttrId) → IsOpen ranks a → found_by ranks (uses_by rules a) ≡ None
  done_by a is = settled.all a (uses_by rules a) is (use_at a None is)

  pub known_taken : (a : AttrId) (n : ℕ) → rank_found ranks a ≡ Some n → IsTaken rules a
  known_taken a n is = is_taken settled.count rules ranks settled.declared (settled.found.for_each ∙ settled.used.for_each) right_by a n is

  pub open_left : (a : AttrId) → IsOpen ranks a → IsLeft rules a
  open_left a is = is_left rules ranks done_by a is

  all_known : (before : List AttrId) → All (λ b. open_test ranks b ≡ false) before → All (IsTaken rules) before
  all_known before all = λ k d lt. let w = is_known _ (all k d lt) in known_taken _ w.0 w.1

  -- an attribute without a rank has a rule
  rule_open : (a : AttrId) → IsOpen ranks a → (o : Option Rule) → rule_of rules a ≡ o → (r : Rule) × (rule_of rules a ≡ Some r)
  rule_open a is None of = absurd (some_none 0 (sym (ap (λ o. found_by ranks (option_map (λ (q : Rule). mentions q.expr) o)) of) ∙ done_by a is))
  rule_open a is (Some r) of = (r, of)

  pub open_has_rule : (a : AttrId) → IsOpen ranks a → (r : Rule) × (rule_of rules a ≡ Some r)
  open_has_rule a is = rule_open a is (rule_of rules a) refl

  mentioned_by : (a : AttrId) (ms : List AttrId) (o : Option Rule) → rule_of rules a ≡ o → Some (option_map (λ (q : Rule). mentions q.expr) o) ≡ Some (Some ms) → mentions_of (rule_of rules a) ≡ ms
  mentioned_by a ms None of same = cc
  mentioned_by a ms (Some r) of same = let mine : mentions r.expr ≡ ms = cc in ap mentions_of of ∙ mine

  -- the first mention without a rank is the first that is left
  pub next_is : (a b : AttrId) (ms : List AttrId) → IsOpen ranks a → slice_get uses a.0 ≡ Some (Some ms) → find (λ x. not (is_some (rank_found ranks x))) ms ≡ Some b → IsFirstLeft rules a b × IsOpen ranks b
  next_is a b ms is used found =
      let f = find_splits (λ x. not (is_some (rank_found ranks x))) ms b found in
      let own = mentioned_by a ms (rule_of rules a) refl (sym (use_at a None is) ∙ used) in
      let none : IsOpen ranks b = unranked (slice_get ranks b.0) (is_none (rank_found ranks b) f.passes) in
      (record { before = f.before; after = f.after; mentioned = own ∙ f.is; left = open_left b none; taken = all_known f.before f.others }, none)

  -- such a mention there is
  pub never_none : (a : AttrId) → IsOpen ranks a → slice_get uses a.0 ≡ Some None → ⊥
  never_none a is used = some_none 0 (settled.all a None is used)

  pub never_missing : (a : AttrId) (ms : List AttrId) → IsOpen ranks a → slice_get uses a.0 ≡ Some (Some ms) → find (λ x. not (is_some (rank_found ranks x))) ms ≡ None → ⊥
  never_missing a ms is used none = by (highest_found (map (rank_found ranks) ms)) refl (settled.all a (Some ms) is used)
    where
      found : (b : AttrId) × (Contains ms b × (rank_found ranks b ≡ None)) → ⊥
      found (b, (there, e)) = find_has (λ x. not (is_some (rank_found ranks x))) ms b there (none_passes (rank_found ranks b) e) none

      by : (y : Option ℕ) → highest_found (map (rank_found ranks) ms) ≡ y → option_map (λ k. 1 + k) (highest_found (map (rank_found ranks) ms)) ≡ None → ⊥
      by None e h = found (one_missing (rank_found ranks) ms e)
      by (Some k) e h = some_none (1 + k) (sym (ap (option_map (λ j. 1 + j)) e) ∙ h)
