-- An operation, a quantifier and a function over time give what their kinds say.
use Rattle.std.proofs.Common.{◌≡◌, ℕ, ◌*◌, ◌-◌, Bool, true, false, List, [], ◌∷◌, length, Option, refl, ℤ, pos, ◌+ℤ◌, ◌-ℤ◌, ◌*ℤ◌, neg_ℤ}
use Rattle.std.specs.Prelude.{map, nat_lt, not, ◌&&◌}
use Rattle.std.specs.Option.{option_map, option_and_then}
use Rattle.std.proofs.lemmas.Bool.{and_parts, ltb-true}
use Rattle.opa_date.specs.declared.TheConstants.{DAYS}
use Rattle.opa_date.specs.Gregorian.{date_of}
use Rattle.opa_date.specs.Moves.{add_days, add_months, add_years, years_between}
use Rattle.opa_value.specs.declared.value.Value.{Value}
use Rattle.opa_value.specs.Arithmetic.{product, quotient}
use Rattle.opa_value.specs.Numbers.{kept}
use Rattle.opa_value.specs.Truth.{all_of, any_of, strict}
use Rattle.opa_model.specs.declared.things.Kind.{Kind}
use Rattle.opa_model.specs.declared.things.Kind.TheVariants as kind
use Rattle.opa_tree.specs.declared.kinds.OpKind.{OpKind}
use Rattle.opa_tree.specs.declared.kinds.OpKind.TheVariants as op
use Rattle.opa_tree.specs.declared.kinds.Quant.{Quant}
use Rattle.opa_tree.specs.declared.kinds.Quant.TheVariants as quant
use Rattle.opa_tree.specs.Kinds.{Typing, is_kind, is_ordered, all_kinds, ordered_kinds, all_can, have, takes, compares, rounds, op_can, quant_can}
use Rattle.opa_window.specs.Days.{days, over_days}
use Rattle.opa_window.specs.Folds.{number_of, held, sum_value, is_less, is_more, total}
use Rattle.opa_window.specs.Windows.{on_date, on_dates, at_date, in_window, years_value}
use Rattle.opa_mean.specs.Meaning.{amount, true_count, first_value, item, quant_of}
use Rattle.opa_mean.specs.Operations.{op_of, on_one, on_two, on_number, whole_value, truth, equal, less, round, moved, joined}
use Rattle.opa_mean.proofs.kinds.Calendar.{IsDay, days_added, months_added}
use Rattle.opa_mean.proofs.kinds.OperandKinds.{one_bool, one_number, two_numbers, number_and_test, two_texts, one_date, two_dates, date_and_number}
use Rattle.opa_mean.proofs.kinds.Plain.{Has, AllHave, alike, open_has, all_has, any_has, held_has, number_has, years_has, round_has, truth_has, joined_has, moved_has, best_has, one_has, two_has, two_chosen_has, on_number_has, numbers_has, on_date_has, on_dates_has}

rounded_has : (xs : List Typing) (k : Kind) → rounds xs k ≡ true → is_kind kind.Number k ≡ true
rounded_has [] k c = absurd (cc c)
rounded_has (x ∷ []) k c = absurd (cc c)
rounded_has (x ∷ y ∷ []) k c = (and_parts (is_kind kind.Number k) (x.can kind.Number) (and_parts (is_kind kind.Number k && x.can kind.Number) y.is_decimals c).0).0
rounded_has (x ∷ y ∷ z ∷ xs) k c = absurd (cc c)

-- a quantifier that hands on what it finds at a listed instance
abbrev pub hands_on : Quant → Bool
hands_on quant.For = true
hands_on quant.Maximum = true
hands_on quant.Minimum = true
hands_on _ = false

module _ (free : Bool) where
  -- what takes operands of some kinds gives its own
  pub given_has : (ks : List Kind) (given : Kind) (xs : List Typing) (k : Kind) (v : Value) → takes ks given xs k ≡ true → Has free given v → Has free k v
  given_has ks given xs k v c h = alike free given k v (and_parts (is_kind given k) (have ks xs) c).0 h

  compared_has : (ks : List Kind) (xs : List Typing) (k : Kind) (f : Value → Value → Option Bool) (vs : List Value) → compares ks xs k ≡ true → Has free k (on_two (λ v w. truth (f v w)) vs)
  compared_has ks xs k f vs c = alike free kind.Bool k (on_two (λ v w. truth (f v w)) vs) (and_parts (is_kind kind.Bool k) _ c).0 (two_has free kind.Bool (λ v w. truth (f v w)) (λ v w. truth_has free (f v w)) vs)

  dated_has : (f : ℕ → Value) → ((d : ℕ) → Has free kind.Number (f d)) → (vs : List Value) → Has free kind.Number (on_one (on_date f) vs)
  dated_has f h = one_has free kind.Number (on_date f) (on_date_has free kind.Number f h)

  between_has : (f : ℕ → ℕ → Value) → ((s t : ℕ) → Has free kind.Number (f s t)) → (vs : List Value) → Has free kind.Number (on_two (on_dates f) vs)
  between_has f h = two_has free kind.Number (on_dates f) (on_dates_has free kind.Number f h)

  shifted_has : (move : ℕ → ℤ → Option ℕ) → ((n : ℕ) (k : ℤ) → nat_lt n DAYS ≡ true → IsDay (move n k)) → (vs : List Value) → Has free kind.Date (on_two (moved move) vs)
  shifted_has move h = two_has free kind.Date (moved move) (moved_has free move h)

  -- only the greatest and the least hand an operand on
  pub op_has : (o : OpKind) (xs : List Typing) (k : Kind) (vs : List Value) → op_can o xs k ≡ true → (all_can xs k ≡ true → AllHave free k vs) → Has free k (op_of o vs)
  op_has op.Add xs k vs c h = given_has two_numbers kind.Number xs k (op_of op.Add vs) c (numbers_has free (λ m n. number_of (m +ℤ n)) (λ m n. number_has free (m +ℤ n)) vs)
  op_has op.Sub xs k vs c h = given_has two_numbers kind.Number xs k (op_of op.Sub vs) c (numbers_has free (λ m n. number_of (m -ℤ n)) (λ m n. number_has free (m -ℤ n)) vs)
  op_has op.Mul xs k vs c h = given_has two_numbers kind.Number xs k (op_of op.Mul vs) c (numbers_has free (λ m n. number_of (product m n)) (λ m n. number_has free (product m n)) vs)
  op_has op.Div xs k vs c h = given_has two_numbers kind.Number xs k (op_of op.Div vs) c (numbers_has free (λ m n. held (option_and_then kept (quotient m n))) (λ m n. held_has free (option_and_then kept (quotient m n))) vs)
  op_has op.Neg xs k vs c h = given_has one_number kind.Number xs k (op_of op.Neg vs) c (one_has free kind.Number (on_number (λ n. number_of (neg_ℤ n))) (on_number_has free kind.Number (λ n. number_of (neg_ℤ n)) (λ n. number_has free (neg_ℤ n))) vs)
  op_has op.Eq xs k vs c h = compared_has all_kinds xs k equal vs c
  op_has op.Ne xs k vs c h = compared_has all_kinds xs k (λ v w. option_map not (equal v w)) vs c
  op_has op.Lt xs k vs c h = compared_has ordered_kinds xs k less vs c
  op_has op.Le xs k vs c h = compared_has ordered_kinds xs k (λ v w. option_map not (less w v)) vs c
  op_has op.Gt xs k vs c h = compared_has ordered_kinds xs k (λ v w. less w v) vs c
  op_has op.Ge xs k vs c h = compared_has ordered_kinds xs k (λ v w. option_map not (less v w)) vs c
  op_has op.Round xs k vs c h = alike free kind.Number k (op_of op.Round vs) (rounded_has xs k c) (numbers_has free round (round_has free) vs)
  op_has op.Min xs k vs c h = two_chosen_has free is_more k vs (h (and_parts (is_ordered k) (all_can xs k) c).1)
  op_has op.Max xs k vs c h = two_chosen_has free is_less k vs (h (and_parts (is_ordered k) (all_can xs k) c).1)
  op_has op.AddDays xs k vs c h = given_has date_and_number kind.Date xs k (op_of op.AddDays vs) c (shifted_has add_days (λ n z e. days_added n z) vs)
  op_has op.AddMonths xs k vs c h = given_has date_and_number kind.Date xs k (op_of op.AddMonths vs) c (shifted_has add_months (λ n z e. months_added n z (ltb-true n DAYS e)) vs)
  op_has op.AddYears xs k vs c h = given_has date_and_number kind.Date xs k (op_of op.AddYears vs) c (shifted_has add_years (λ n z e. months_added n (z *ℤ pos 12) (ltb-true n DAYS e)) vs)
  op_has op.DaysBetween xs k vs c h = given_has two_dates kind.Number xs k (op_of op.DaysBetween vs) c (between_has (λ s t. whole_value (pos t -ℤ pos s)) (λ s t. number_has free ((pos t -ℤ pos s) *ℤ pos 10000)) vs)
  op_has op.YearsBetween xs k vs c h = given_has two_dates kind.Number xs k (op_of op.YearsBetween vs) c (between_has (λ s t. years_value (years_between s t)) (λ s t. years_has free (years_between s t)) vs)
  op_has op.YearOf xs k vs c h = given_has one_date kind.Number xs k (op_of op.YearOf vs) c (dated_has (λ s. whole_value (date_of s).year) (λ s. number_has free ((date_of s).year *ℤ pos 10000)) vs)
  op_has op.MonthOf xs k vs c h = given_has one_date kind.Number xs k (op_of op.MonthOf vs) c (dated_has (λ s. whole_value (pos (date_of s).month)) (λ s. number_has free (pos (date_of s).month *ℤ pos 10000)) vs)
  op_has op.DayOf xs k vs c h = given_has one_date kind.Number xs k (op_of op.DayOf vs) c (dated_has (λ s. whole_value (pos (date_of s).day)) (λ s. number_has free (pos (date_of s).day *ℤ pos 10000)) vs)
  op_has op.Concatenate xs k vs c h = given_has two_texts kind.Words xs k (op_of op.Concatenate vs) c (two_has free kind.Words joined (joined_has free) vs)

  first_has : (k : Kind) (vs : List Value) → AllHave free k vs → Has free k (first_value vs)
  first_has k [] h = refl
  first_has k (v ∷ vs) h = h.0

  amount_has : (n : ℕ) → Has free kind.Number (amount n)
  amount_has n = number_has free (pos (n * 10000))

  pub quant_has : (q : Quant) (to_one : Bool) (xs : List Typing) (k : Kind) (vs : List Value) → quant_can q to_one xs k ≡ true → (hands_on q ≡ true → all_can xs k ≡ true → AllHave free k vs) → Has free k (quant_of q vs)
  quant_has quant.ForAll to_one xs k vs c h = given_has one_bool kind.Bool xs k (all_of vs) c (all_has free vs)
  quant_has quant.Exists to_one xs k vs c h = given_has one_bool kind.Bool xs k (any_of vs) c (any_has free vs)
  quant_has quant.For to_one xs k vs c h = first_has k vs (h refl (and_parts to_one (all_can xs k) c).1)
  quant_has quant.Count to_one xs k vs c h = given_has [] kind.Number xs k (amount (length vs)) c (amount_has (length vs))
  quant_has quant.CountIf to_one xs k vs c h = given_has one_bool kind.Number xs k (strict true_count vs) c (open_has free kind.Number vs (true_count vs) (amount_has _))
  quant_has quant.Sum to_one xs k vs c h = given_has one_number kind.Number xs k (strict sum_value vs) c (open_has free kind.Number vs (sum_value vs) (number_has free (total vs)))
  quant_has quant.SumIf to_one xs k vs c h = given_has number_and_test kind.Number xs k (strict sum_value vs) c (open_has free kind.Number vs (sum_value vs) (number_has free (total vs)))
  quant_has quant.Maximum to_one xs k vs c h = open_has free k vs _ (best_has free is_less k vs (h refl (and_parts (is_ordered k) (all_can xs k) c).1))
  quant_has quant.Minimum to_one xs k vs c h = open_has free k vs _ (best_has free is_more k vs (h refl (and_parts (is_ordered k) (all_can xs k) c).1))

  -- it takes the only operand's value at each listed instance
  pub item_has : (q : Quant) (k : Kind) (vs : List Value) → hands_on q ≡ true → AllHave free k vs → Has free k (item q vs)
  item_has quant.For k [] e h = refl
  item_has quant.For k (v ∷ []) e h = h.0
  item_has quant.For k (v ∷ w ∷ vs) e h = refl
  item_has quant.Maximum k [] e h = refl
  item_has quant.Maximum k (v ∷ []) e h = h.0
  item_has quant.Maximum k (v ∷ w ∷ vs) e h = refl
  item_has quant.Minimum k [] e h = refl
  item_has quant.Minimum k (v ∷ []) e h = h.0
  item_has quant.Minimum k (v ∷ w ∷ vs) e h = refl
  item_has _ k vs e h = absurd (cc e)

  -- over time
  pub at_date_has : (k : Kind) (f : ℕ → Value) (v : Value) → ((d : ℕ) → Has free k (f d)) → Has free k (at_date f v)
  at_date_has k f v h = open_has free k (v ∷ []) (on_date f v) (on_date_has free k f h v)

  pub in_window_has : (k : Kind) (fold : List Value → Value) (x : ℕ → Value) (v w : Value) → ((s t : ℕ) → Has free k (fold (over_days x s t))) → Has free k (in_window fold x v w)
  in_window_has k fold x v w h = open_has free k (v ∷ w ∷ []) _ (on_dates_has free k (λ s t. fold (over_days x s t)) h v w)

  days_have : (k : Kind) (x : ℕ → Value) → ((d : ℕ) → Has free k (x d)) → (ds : List ℕ) → AllHave free k (map x ds)
  days_have k x h [] = tt
  days_have k x h (d ∷ ds) = (h d, days_have k x h ds)

  pub over_days_have : (k : Kind) (x : ℕ → Value) → ((d : ℕ) → Has free k (x d)) → (s t : ℕ) → AllHave free k (over_days x s t)
  over_days_have k x h s t = days_have k x h (days s (t - s))
