-- Where a result is unknown, a value that it is made of is.
use Rattle.std.proofs.Common.{◌≡◌, ◌⊎◌, inl, inr, ℕ, ℤ, pos, List, [], ◌∷◌, ◌++◌, Bool, true, false, cond, Option, None, Some, refl, sym, ◌∙◌, ap}
use Rattle.std.specs.Prelude.{filter, ◌*◌, ◌*ℤ◌, not, nat_lt, nat_le, length, ◌||◌, ◌&&◌, ◌+ℤ◌, ◌-ℤ◌, neg_ℤ}
use Rattle.std.specs.Option.{option_map, option_and_then}
use Rattle.std.specs.List.{list_any}
use Rattle.opa_date.specs.declared.TheConstants.{DAYS}
use Rattle.opa_date.specs.Gregorian.{date_of}
use Rattle.opa_date.specs.Moves.{add_days, add_months, add_years, years_between}
use Rattle.opa_value.specs.declared.value.Value.{Value}
use Rattle.opa_value.specs.declared.value.Value.TheVariants.{Unknown, Uncertain, Bool as Truth, Num, Words, Day}
use Rattle.opa_value.specs.Arithmetic.{one, product, quotient}
use Rattle.opa_value.specs.Numbers.{kept}
use Rattle.opa_value.specs.Truth.{is_unknown, is_uncertain, is_true, is_false, all_of, any_of, strict, unless_open}
use Rattle.opa_tree.specs.declared.kinds.OpKind.{OpKind}
use Rattle.opa_tree.specs.declared.kinds.OpKind.TheVariants as op
use Rattle.opa_tree.specs.declared.kinds.Quant.{Quant}
use Rattle.opa_tree.specs.declared.kinds.Quant.TheVariants as quant
use Rattle.opa_tree.specs.Kinds.{counts_decimals}
use Rattle.opa_window.specs.Days.{over_days, last_days}
use Rattle.opa_window.specs.Folds.{held, number_of, best_from, best, is_less, is_more, greatest, least, sum_value, run_value, total, longest}
use Rattle.opa_window.specs.Windows.{on_date, on_dates, at_date, in_window, years_value}
use Rattle.opa_mean.specs.Meaning.{true_count, first_value, quant_of, rolling}
use Rattle.opa_mean.specs.Operations.{on_one, on_two, on_number, on_numbers, whole_of, whole_value, truth, equal, less, round, day_or_not, moved, joined, op_of}

abbrev Never : Value → Type 0
Never v = v ≡ Unknown → ⊥

pub unknown_is : (v : Value) → is_unknown v ≡ true → v ≡ Unknown
unknown_is Unknown e = refl
unknown_is Uncertain e = absurd (cc e)
unknown_is (Truth b) e = absurd (cc e)
unknown_is (Num n) e = absurd (cc e)
unknown_is (Words t) e = absurd (cc e)
unknown_is (Day d) e = absurd (cc e)

-- one of the values is unknown
abbrev pub HasUnknown : List Value → Type 0
HasUnknown vs = list_any is_unknown vs ≡ true

here : (v : Value) (vs : List Value) → v ≡ Unknown → HasUnknown (v ∷ vs)
here v vs e = ap (λ x. is_unknown x || list_any is_unknown vs) e

there : (v : Value) (vs : List Value) → HasUnknown vs → HasUnknown (v ∷ vs)
there v vs e = ap (λ b. is_unknown v || b) e ∙ or_true (is_unknown v)
  where
    or_true : (b : Bool) → (b || true) ≡ true
    or_true true = refl
    or_true false = refl

open_unknown : (vs : List Value) (b : Value) → (b ≡ Unknown → HasUnknown vs) → unless_open vs b ≡ Unknown → HasUnknown vs
open_unknown vs b n e = go (list_any is_unknown vs) refl
  where
    go : (t : Bool) → list_any is_unknown vs ≡ t → list_any is_unknown vs ≡ true
    go true q = q
    go false q = known (list_any is_uncertain vs) (sym (ap (λ x. cond x Unknown (cond (list_any is_uncertain vs) Uncertain b)) q) ∙ e)
      where
        known : (u : Bool) → cond u Uncertain b ≡ Unknown → HasUnknown vs
        known true k = absurd (cc k)
        known false k = n k

pub strict_unknown : (f : List Value → Value) → ((vs : List Value) → f vs ≡ Unknown → HasUnknown vs) → (vs : List Value) → strict f vs ≡ Unknown → HasUnknown vs
strict_unknown f h vs e = open_unknown vs (f vs) (h vs) e

decided_unknown : (p : Value → Bool) (a b : Value) → Never a → Never b → (vs : List Value) → cond (list_any p vs) a (unless_open vs b) ≡ Unknown → HasUnknown vs
decided_unknown p a b na nb vs e = go (list_any p vs) e
  where
    go : (t : Bool) → cond t a (unless_open vs b) ≡ Unknown → HasUnknown vs
    go true k = absurd (na k)
    go false k = open_unknown vs b (λ un. absurd (nb un)) k

pub all_unknown : (vs : List Value) → all_of vs ≡ Unknown → HasUnknown vs
all_unknown = decided_unknown is_false (Truth false) (Truth true) (λ e. cc e) (λ e. cc e)

pub any_unknown : (vs : List Value) → any_of vs ≡ Unknown → HasUnknown vs
any_unknown = decided_unknown is_true (Truth true) (Truth false) (λ e. cc e) (λ e. cc e)

-- results that are never unknown
held_never : (o : Option ℤ) → Never (held o)
held_never None e = cc e
held_never (Some n) e = cc e

number_never : (n : ℤ) → Never (number_of n)
number_never n = held_never (kept n)

whole_never : (n : ℤ) → Never (whole_value n)
whole_never n = number_never (n *ℤ pos one)

truth_never : (o : Option Bool) → Never (truth o)
truth_never None e = cc e
truth_never (Some b) e = cc e

day_never : (o : Option ℕ) → Never (day_or_not o)
day_never None e = cc e
day_never (Some d) e = cc e

pub told_years : (o : Option ℕ) → Never (years_value o)
told_years None e = cc e
told_years (Some k) e = number_never (pos (k * 10000)) e

if_never : (b : Bool) (v : Value) → Never v → Never (cond b v Uncertain)
if_never true v n = n
if_never false v n = λ e. cc e

one_never : (f : Value → Value) → ((v : Value) → Never (f v)) → (vs : List Value) → Never (on_one f vs)
one_never f h [] e = cc e
one_never f h (v ∷ []) e = h v e
one_never f h (v ∷ w ∷ vs) e = cc e

two_never : (f : Value → Value → Value) → ((v w : Value) → Never (f v w)) → (vs : List Value) → Never (on_two f vs)
two_never f h [] e = cc e
two_never f h (v ∷ []) e = cc e
two_never f h (v ∷ w ∷ []) e = h v w e
two_never f h (v ∷ w ∷ x ∷ vs) e = cc e

number_on : (f : ℤ → Value) → ((n : ℤ) → Never (f n)) → (v : Value) → Never (on_number f v)
number_on f h (Num n) e = h n e
number_on f h _ e = cc e

numbers_on : (f : ℤ → ℤ → Value) → ((m n : ℤ) → Never (f m n)) → (v w : Value) → Never (on_numbers f v w)
numbers_on f h (Num m) (Num n) e = h m n e
numbers_on f h _ _ e = cc e

moved_never : (f : ℕ → ℤ → Option ℕ) → (v w : Value) → Never (moved f v w)
moved_never f (Day s) (Num n) e = if_never (nat_lt s DAYS) (day_or_not (option_and_then (f s) (whole_of n))) (day_never (option_and_then (f s) (whole_of n))) e
moved_never f _ _ e = cc e

joined_never : (v w : Value) → Never (joined v w)
joined_never (Words s) (Words t) e = if_never (nat_le (length (s ++ t)) 1000) (Words (s ++ t)) (λ k. cc k) e
joined_never _ _ e = cc e

round_never : (n k : ℤ) → Never (round n k)
round_never n k e = if_never (counts_decimals k) (Num _) (λ x. cc x) e

date_never : (f : ℕ → Value) → ((s : ℕ) → Never (f s)) → (v : Value) → Never (on_date f v)
date_never f h (Day s) e = if_never (nat_lt s DAYS) (f s) (h s) e
date_never f h _ e = cc e

dates_never : (f : ℕ → ℕ → Value) → ((s t : ℕ) → Never (f s t)) → (v w : Value) → Never (on_dates f v w)
dates_never f h (Day s) (Day t) e = if_never (nat_lt s DAYS && nat_lt t DAYS) (f s t) (h s t) e
dates_never f h _ _ e = cc e

-- the best of values is one of them
best_from_unknown : (p : Value → Value → Bool) (v : Value) (vs : List Value) → best_from p v vs ≡ Unknown → HasUnknown (v ∷ vs)
best_from_unknown p v [] e = here v [] e
best_from_unknown p v (w ∷ vs) e = go (p v w) e (best_from_unknown p w vs) (best_from_unknown p v vs)
  where
    over_one : HasUnknown (v ∷ vs) → HasUnknown (v ∷ w ∷ vs)
    over_one h = first (is_unknown v) refl h
      where
        first : (b : Bool) → is_unknown v ≡ b → HasUnknown (v ∷ vs) → HasUnknown (v ∷ w ∷ vs)
        first true q h = here v (w ∷ vs) (unknown_is v q)
        first false q h = there v (w ∷ vs) (there w vs (sym (ap (λ b. b || list_any is_unknown vs) q) ∙ h))

    go : (b : Bool) → best_from p (cond b w v) vs ≡ Unknown → (best_from p w vs ≡ Unknown → HasUnknown (w ∷ vs)) → (best_from p v vs ≡ Unknown → HasUnknown (v ∷ vs)) → HasUnknown (v ∷ w ∷ vs)
    go true k f g = there v (w ∷ vs) (f k)
    go false k f g = over_one (g k)

best_unknown : (p : Value → Value → Bool) (vs : List Value) → best p vs ≡ Unknown → HasUnknown vs
best_unknown p [] e = absurd (cc e)
best_unknown p (v ∷ vs) e = best_from_unknown p v vs e

best_two : (p : Value → Value → Bool) (vs : List Value) → on_two (λ v w. best p (v ∷ w ∷ [])) vs ≡ Unknown → HasUnknown vs
best_two p [] e = absurd (cc e)
best_two p (v ∷ []) e = absurd (cc e)
best_two p (v ∷ w ∷ []) e = best_unknown p (v ∷ w ∷ []) e
best_two p (v ∷ w ∷ x ∷ vs) e = absurd (cc e)

op_unknown : (k : OpKind) (vs : List Value) → op_of k vs ≡ Unknown → HasUnknown vs
op_unknown op.Add vs e = absurd (two_never _ (numbers_on _ (λ m n. number_never (m +ℤ n))) vs e)
op_unknown op.Sub vs e = absurd (two_never _ (numbers_on _ (λ m n. number_never (m -ℤ n))) vs e)
op_unknown op.Mul vs e = absurd (two_never _ (numbers_on _ (λ m n. number_never (product m n))) vs e)
op_unknown op.Div vs e = absurd (two_never _ (numbers_on _ (λ m n. held_never (option_and_then kept (quotient m n)))) vs e)
op_unknown op.Neg vs e = absurd (one_never _ (number_on _ (λ n. number_never (neg_ℤ n))) vs e)
op_unknown op.Eq vs e = absurd (two_never _ (λ v w. truth_never (equal v w)) vs e)
op_unknown op.Ne vs e = absurd (two_never _ (λ v w. truth_never (option_map not (equal v w))) vs e)
op_unknown op.Lt vs e = absurd (two_never _ (λ v w. truth_never (less v w)) vs e)
op_unknown op.Le vs e = absurd (two_never _ (λ v w. truth_never (option_map not (less w v))) vs e)
op_unknown op.Gt vs e = absurd (two_never _ (λ v w. truth_never (less w v)) vs e)
op_unknown op.Ge vs e = absurd (two_never _ (λ v w. truth_never (option_map not (less v w))) vs e)
op_unknown op.Round vs e = absurd (two_never _ (numbers_on _ round_never) vs e)
op_unknown op.Min vs e = best_two is_more vs e
op_unknown op.Max vs e = best_two is_less vs e
op_unknown op.AddDays vs e = absurd (two_never _ (moved_never add_days) vs e)
op_unknown op.AddMonths vs e = absurd (two_never _ (moved_never add_months) vs e)
op_unknown op.AddYears vs e = absurd (two_never _ (moved_never add_years) vs e)
op_unknown op.DaysBetween vs e = absurd (two_never _ (dates_never _ (λ s t. whole_never (pos t -ℤ pos s))) vs e)
op_unknown op.YearsBetween vs e = absurd (two_never _ (dates_never _ (λ s t. told_years (years_between s t))) vs e)
op_unknown op.YearOf vs e = absurd (one_never _ (date_never _ (λ s. whole_never (date_of s).year)) vs e)
op_unknown op.MonthOf vs e = absurd (one_never _ (date_never _ (λ s. whole_never (pos (date_of s).month))) vs e)
op_unknown op.DayOf vs e = absurd (one_never _ (date_never _ (λ s. whole_never (pos (date_of s).day))) vs e)
op_unknown op.Concatenate vs e = absurd (two_never joined joined_never vs e)

pub operation_unknown : (k : OpKind) (vs : List Value) → strict (op_of k) vs ≡ Unknown → HasUnknown vs
operation_unknown k = strict_unknown (op_of k) (op_unknown k)

pub sum_unknown : (vs : List Value) → strict sum_value vs ≡ Unknown → HasUnknown vs
sum_unknown = strict_unknown sum_value (λ vs e. absurd (number_never (total vs) e))

pub run_unknown : (vs : List Value) → strict run_value vs ≡ Unknown → HasUnknown vs
run_unknown = strict_unknown run_value (λ vs e. absurd (number_never (pos (longest vs * 10000)) e))

pub greatest_unknown : (vs : List Value) → strict greatest vs ≡ Unknown → HasUnknown vs
greatest_unknown = strict_unknown greatest (best_unknown is_less)

pub least_unknown : (vs : List Value) → strict least vs ≡ Unknown → HasUnknown vs
least_unknown = strict_unknown least (best_unknown is_more)

first_unknown : (vs : List Value) → first_value vs ≡ Unknown → HasUnknown vs
first_unknown [] e = absurd (cc e)
first_unknown (v ∷ vs) e = here v vs e

pub quant_unknown : (q : Quant) (vs : List Value) → quant_of q vs ≡ Unknown → HasUnknown vs
quant_unknown quant.ForAll vs e = all_unknown vs e
quant_unknown quant.Exists vs e = any_unknown vs e
quant_unknown quant.For vs e = first_unknown vs e
quant_unknown quant.Count vs e = absurd (number_never (pos (length vs * 10000)) e)
quant_unknown quant.CountIf vs e = strict_unknown true_count (λ vs e. absurd (number_never (pos (length (filter is_true vs) * 10000)) e)) vs e
quant_unknown quant.Sum vs e = sum_unknown vs e
quant_unknown quant.SumIf vs e = sum_unknown vs e
quant_unknown quant.Maximum vs e = greatest_unknown vs e
quant_unknown quant.Minimum vs e = least_unknown vs e

pub rolling_unknown : (b : Bool) (n : ℕ) (f : ℕ → Value) (d : ℕ) → rolling b n f d ≡ Unknown → HasUnknown (last_days n f d)
rolling_unknown true n f d e = all_unknown (last_days n f d) e
rolling_unknown false n f d e = any_unknown (last_days n f d) e

-- a function of one date
pub at_date_unknown : (f : ℕ → Value) (v : Value) → at_date f v ≡ Unknown → (v ≡ Unknown) ⊎ (on_date f v ≡ Unknown)
at_date_unknown f Unknown e = inl refl
at_date_unknown f Uncertain e = absurd (cc e)
at_date_unknown f (Truth b) e = inr e
at_date_unknown f (Num n) e = inr e
at_date_unknown f (Words t) e = inr e
at_date_unknown f (Day d) e = inr e

pub told_date : (f : ℕ → Value) → ((s : ℕ) → Never (f s)) → (v : Value) → at_date f v ≡ Unknown → v ≡ Unknown
told_date f h v e = go (at_date_unknown f v e)
  where
    go : (v ≡ Unknown) ⊎ (on_date f v ≡ Unknown) → v ≡ Unknown
    go (inl un) = un
    go (inr un) = absurd (date_never f h v un)

pub told_truth : (b : Bool) → Never (Truth b)
told_truth b e = cc e

-- a function of two dates
pub in_window_unknown : (fold : List Value → Value) (x : ℕ → Value) (v w : Value) → in_window fold x v w ≡ Unknown → (v ≡ Unknown) ⊎ ((w ≡ Unknown) ⊎ (on_dates (λ s t. fold (over_days x s t)) v w ≡ Unknown))
in_window_unknown fold x v w e = go (is_unknown v) refl (is_unknown w) refl
  where
    go : (a : Bool) → is_unknown v ≡ a → (b : Bool) → is_unknown w ≡ b → (v ≡ Unknown) ⊎ ((w ≡ Unknown) ⊎ (on_dates (λ s t. fold (over_days x s t)) v w ≡ Unknown))
    go true p _ q = inl (unknown_is v p)
    go false p true q = inr (inl (unknown_is w q))
    go false p false q = inr (inr (plain (list_any is_uncertain (v ∷ w ∷ [])) (sym (ap (λ a. cond (a || (is_unknown w || false)) Unknown (cond (list_any is_uncertain (v ∷ w ∷ [])) Uncertain (on_dates (λ s t. fold (over_days x s t)) v w))) p ∙ ap (λ b. cond (b || false) Unknown (cond (list_any is_uncertain (v ∷ w ∷ [])) Uncertain (on_dates (λ s t. fold (over_days x s t)) v w))) q) ∙ e)))
      where
        plain : (u : Bool) → cond u Uncertain (on_dates (λ s t. fold (over_days x s t)) v w) ≡ Unknown → on_dates (λ s t. fold (over_days x s t)) v w ≡ Unknown
        plain true k = absurd (cc k)
        plain false k = k
