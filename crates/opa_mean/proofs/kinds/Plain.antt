-- What each operation gives has the kind that the operation gives.
use Rattle.std.proofs.Common.{◌≡◌, ℕ, ◌*◌, Bool, true, false, cond, List, [], ◌∷◌, length, Option, None, Some, refl, sym, ◌∙◌, ℤ, pos}
use Rattle.std.specs.Prelude.{nat_lt, nat_le, ◌&&◌, ◌||◌, ◌++◌}
use Rattle.std.specs.List.{list_any, AllByRecursion}
use Rattle.std.specs.Option.{option_and_then}
use Rattle.std.proofs.lemmas.Bool.{and_parts, and_from}
use Rattle.opa_date.specs.declared.TheConstants.{DAYS}
use Rattle.opa_value.specs.declared.value.Value.{Value}
use Rattle.opa_value.specs.declared.value.Value.TheVariants as value
use Rattle.opa_value.specs.Fit.{fit_of}
use Rattle.opa_value.specs.Numbers.{kept}
use Rattle.opa_value.specs.Truth.{is_false, is_true, is_unknown, is_uncertain, all_of, any_of, not_of, unless_open}
use Rattle.opa_model.specs.declared.things.Kind.{Kind}
use Rattle.opa_model.specs.declared.things.Kind.TheVariants as kind
use Rattle.opa_tree.specs.Kinds.{is_kind, counts_decimals}
use Rattle.opa_case.specs.Steps.{has_kind, is_bool, is_number, is_words, is_date}
use Rattle.opa_window.specs.Folds.{held, number_of, best, best_from}
use Rattle.opa_window.specs.Windows.{on_date, on_dates, years_value}
use Rattle.opa_mean.specs.Meaning.{choose, certain_of, known_of}
use Rattle.opa_mean.specs.Operations.{on_one, on_two, on_number, on_numbers, whole_of, truth, round, day_or_not, moved, joined}
use Rattle.opa_mean.proofs.kinds.Calendar.{IsDay}

-- a plain value is of the kind; a date's day is one of the calendar, or days are free
abbrev pub is_of : Bool → Kind → Value → Bool
is_of free k value.Unknown = true
is_of free k value.Uncertain = true
is_of free k (value.Bool b) = is_bool k
is_of free k (value.Num n) = is_number k
is_of free k (value.Words t) = is_words k
is_of free k (value.Day d) = is_date k && (free || nat_lt d DAYS)

-- where days aren't free, it is the kind of answers
pub bound_is : (k : Kind) (v : Value) → is_of false k v ≡ has_kind k v
bound_is k value.Unknown = refl
bound_is k value.Uncertain = refl
bound_is k (value.Bool b) = refl
bound_is k (value.Num n) = refl
bound_is k (value.Words t) = refl
bound_is k (value.Day d) = refl

-- a truth value has no day
pub truth_is : (free : Bool) (v : Value) → is_of free kind.Bool v ≡ has_kind kind.Bool v
truth_is free value.Unknown = refl
truth_is free value.Uncertain = refl
truth_is free (value.Bool b) = refl
truth_is free (value.Num n) = refl
truth_is free (value.Words t) = refl
truth_is free (value.Day d) = refl

freed : (k : Kind) (v : Value) → is_of false k v ≡ true → is_of true k v ≡ true
freed k value.Unknown h = h
freed k value.Uncertain h = h
freed k (value.Bool b) h = h
freed k (value.Num n) h = h
freed k (value.Words t) h = h
freed k (value.Day d) h = let both = and_parts (is_date k) (nat_lt d DAYS) h in and_from (is_date k) true both.0 refl

module _ (free : Bool) where
  -- the value is plain of this kind, or not plain
  abbrev pub Has : Kind → Value → Type 0
  Has k v = is_of free k v ≡ true

  abbrev pub AllHave : Kind → List Value → Type 0
  AllHave k vs = AllByRecursion (Has k) vs

  -- what is of its kind as an answer, is so where days are free too
  pub kind_has : (k : Kind) (v : Value) → has_kind k v ≡ true → Has k v
  kind_has k v h = go free (sym (bound_is k v) ∙ h)
    where
      go : (b : Bool) → is_of false k v ≡ true → is_of b k v ≡ true
      go false h' = h'
      go true h' = freed k v h'

  -- number and currency have the same values
  money_is : (v : Value) → is_of free kind.Number v ≡ is_of free kind.Currency v
  money_is value.Unknown = refl
  money_is value.Uncertain = refl
  money_is (value.Bool b) = refl
  money_is (value.Num n) = refl
  money_is (value.Words t) = refl
  money_is (value.Day d) = refl

  pub alike : (a k : Kind) (v : Value) → is_kind a k ≡ true → Has a v → Has k v
  alike kind.Bool kind.Bool v e h = h
  alike kind.Number kind.Number v e h = h
  alike kind.Number kind.Currency v e h = sym (money_is v) ∙ h
  alike kind.Currency kind.Number v e h = money_is v ∙ h
  alike kind.Currency kind.Currency v e h = h
  alike kind.Words kind.Words v e h = h
  alike kind.Date kind.Date v e h = h
  alike _ _ v e h = absurd (cc e)

  pub uncertain_has : (k : Kind) → Has k value.Uncertain
  uncertain_has k = refl

  pub cond_has : (k : Kind) (b : Bool) (v w : Value) → Has k v → Has k w → Has k (cond b v w)
  cond_has k true v w h h' = h
  cond_has k false v w h h' = h'

  pub open_has : (k : Kind) (vs : List Value) (v : Value) → Has k v → Has k (unless_open vs v)
  open_has k vs v h = cond_has k (list_any is_unknown vs) _ _ refl (cond_has k (list_any is_uncertain vs) _ _ refl h)

  pub all_has : (vs : List Value) → Has kind.Bool (all_of vs)
  all_has vs = cond_has kind.Bool (list_any is_false vs) _ _ refl (open_has kind.Bool vs (value.Bool true) refl)

  pub any_has : (vs : List Value) → Has kind.Bool (any_of vs)
  any_has vs = cond_has kind.Bool (list_any is_true vs) _ _ refl (open_has kind.Bool vs (value.Bool false) refl)

  pub not_has : (v : Value) → Has kind.Bool (not_of v)
  not_has value.Unknown = refl
  not_has value.Uncertain = refl
  not_has (value.Bool b) = refl
  not_has (value.Num n) = refl
  not_has (value.Words t) = refl
  not_has (value.Day d) = refl

  pub certain_has : (v : Value) → Has kind.Bool (certain_of v)
  certain_has value.Unknown = refl
  certain_has value.Uncertain = refl
  certain_has _ = refl

  pub known_has : (v : Value) → Has kind.Bool (known_of v)
  known_has value.Unknown = refl
  known_has _ = refl

  pub choose_has : (k : Kind) (c v w : Value) → Has k v → Has k w → Has k (choose c v w)
  choose_has k (value.Bool true) v w h h' = h
  choose_has k (value.Bool false) v w h h' = h'
  choose_has k value.Unknown v w h h' = refl
  choose_has k value.Uncertain v w h h' = refl
  choose_has k (value.Num n) v w h h' = refl
  choose_has k (value.Words t) v w h h' = refl
  choose_has k (value.Day d) v w h h' = refl

  -- numbers
  pub held_has : (o : Option ℤ) → Has kind.Number (held o)
  held_has None = refl
  held_has (Some n) = refl

  pub number_has : (n : ℤ) → Has kind.Number (number_of n)
  number_has n = held_has (kept n)

  pub years_has : (o : Option ℕ) → Has kind.Number (years_value o)
  years_has None = refl
  years_has (Some n) = number_has (pos (n * 10000))

  pub round_has : (n k : ℤ) → Has kind.Number (round n k)
  round_has n k = cond_has kind.Number (counts_decimals k) _ _ refl refl

  pub truth_has : (o : Option Bool) → Has kind.Bool (truth o)
  truth_has None = refl
  truth_has (Some b) = refl

  pub joined_has : (v w : Value) → Has kind.Words (joined v w)
  joined_has (value.Words s) (value.Words t) = cond_has kind.Words (nat_le (length (s ++ t)) 1000) _ _ refl refl
  joined_has _ _ = refl

  -- days
  day_has : (o : Option ℕ) → IsDay o → Has kind.Date (day_or_not o)
  day_has o h = kind_has kind.Date (day_or_not o) h

  moved_by_has : (move : ℤ → Option ℕ) → ((k : ℤ) → IsDay (move k)) → (o : Option ℤ) → IsDay (option_and_then move o)
  moved_by_has move h None = refl
  moved_by_has move h (Some k) = h k

  pub moved_has : (move : ℕ → ℤ → Option ℕ) → ((n : ℕ) (k : ℤ) → nat_lt n DAYS ≡ true → IsDay (move n k)) → (v w : Value) → Has kind.Date (moved move v w)
  moved_has move h (value.Day s) (value.Num n) = go (nat_lt s DAYS) refl
    where
      go : (b : Bool) → nat_lt s DAYS ≡ b → Has kind.Date (cond b (day_or_not (option_and_then (move s) (whole_of n))) value.Uncertain)
      go false e = refl
      go true e = day_has (option_and_then (move s) (whole_of n)) (moved_by_has (move s) (λ k. h s k e) (whole_of n))
  moved_has move h _ _ = refl

  -- the greatest and the least are one of the values
  best_from_has : (beaten : Value → Value → Bool) (k : Kind) (v : Value) (vs : List Value) → Has k v → AllHave k vs → Has k (best_from beaten v vs)
  best_from_has beaten k v [] h hs = h
  best_from_has beaten k v (w ∷ vs) h hs = best_from_has beaten k (cond (beaten v w) w v) vs (cond_has k (beaten v w) w v hs.0 h) hs.1

  pub best_has : (beaten : Value → Value → Bool) (k : Kind) (vs : List Value) → AllHave k vs → Has k (best beaten vs)
  best_has beaten k [] hs = refl
  best_has beaten k (v ∷ vs) hs = best_from_has beaten k v vs hs.0 hs.1

  -- operands by their number and kind
  pub one_has : (k : Kind) (f : Value → Value) → ((v : Value) → Has k (f v)) → (vs : List Value) → Has k (on_one f vs)
  one_has k f h [] = refl
  one_has k f h (v ∷ []) = h v
  one_has k f h (v ∷ w ∷ vs) = refl

  pub two_has : (k : Kind) (f : Value → Value → Value) → ((v w : Value) → Has k (f v w)) → (vs : List Value) → Has k (on_two f vs)
  two_has k f h [] = refl
  two_has k f h (v ∷ []) = refl
  two_has k f h (v ∷ w ∷ []) = h v w
  two_has k f h (u ∷ v ∷ w ∷ vs) = refl

  pub two_chosen_has : (beaten : Value → Value → Bool) (k : Kind) (vs : List Value) → AllHave k vs → Has k (on_two (λ v w. best beaten (v ∷ w ∷ [])) vs)
  two_chosen_has beaten k [] hs = refl
  two_chosen_has beaten k (v ∷ []) hs = refl
  two_chosen_has beaten k (v ∷ w ∷ []) hs = best_has beaten k (v ∷ w ∷ []) hs
  two_chosen_has beaten k (u ∷ v ∷ w ∷ vs) hs = refl

  pub on_number_has : (k : Kind) (f : ℤ → Value) → ((n : ℤ) → Has k (f n)) → (v : Value) → Has k (on_number f v)
  on_number_has k f h (value.Num n) = h n
  on_number_has k f h _ = refl

  on_numbers_has : (k : Kind) (f : ℤ → ℤ → Value) → ((m n : ℤ) → Has k (f m n)) → (v w : Value) → Has k (on_numbers f v w)
  on_numbers_has k f h (value.Num m) (value.Num n) = h m n
  on_numbers_has k f h _ _ = refl

  pub on_date_has : (k : Kind) (f : ℕ → Value) → ((d : ℕ) → Has k (f d)) → (v : Value) → Has k (on_date f v)
  on_date_has k f h (value.Day d) = cond_has k (nat_lt d DAYS) _ _ (h d) refl
  on_date_has k f h _ = refl

  pub on_dates_has : (k : Kind) (f : ℕ → ℕ → Value) → ((s t : ℕ) → Has k (f s t)) → (v w : Value) → Has k (on_dates f v w)
  on_dates_has k f h (value.Day s) (value.Day t) = cond_has k (nat_lt s DAYS && nat_lt t DAYS) _ _ (h s t) refl
  on_dates_has k f h _ _ = refl

  -- a concluded currency is rounded
  pub fit_has : (a : Kind) (b : Bool) (v : Value) → Has a v → Has a (fit_of b v)
  fit_has a true (value.Num n) h = h
  fit_has a true value.Unknown h = h
  fit_has a true value.Uncertain h = h
  fit_has a true (value.Bool b) h = h
  fit_has a true (value.Words t) h = h
  fit_has a true (value.Day d) h = h
  fit_has a false v h = h

  pub numbers_has : (f : ℤ → ℤ → Value) → ((m n : ℤ) → Has kind.Number (f m n)) → (vs : List Value) → Has kind.Number (on_two (on_numbers f) vs)
  numbers_has f h = two_has kind.Number (on_numbers f) (on_numbers_has kind.Number f h)
