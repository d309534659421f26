-- What rules conclude can be printed, where their constants and the answers can.
use Rattle.std.proofs.Common.{◌≡◌, ℕ, zero, suc, ◌*◌, ◌%◌, ℤ, pos, ◌+ℤ◌, ◌-ℤ◌, ◌*ℤ◌, neg_ℤ, Bool, true, false, cond, List, [], ◌∷◌, ◌++◌, filter, map, length, Option, None, Some, refl, sym, ◌∙◌, ap, subst, arith}
use Rattle.std.specs.Prelude.{nat_lt, nat_le, not, ◌&&◌, unsigned_abs}
use Rattle.std.specs.FinMap.{get}
use Rattle.std.specs.List.{list_all, list_any, AllByRecursion}
use Rattle.std.specs.Option.{option_map, option_and_then}
use Rattle.std.specs.Str.{chars}
use Rattle.std.proofs.lemmas.Bool.{not-true, and_parts, leb-true, ltb-true, eqb-true}
use Rattle.std.proofs.lemmas.Int.{unsigned_abs-mul}
use Rattle.std.proofs.lemmas.Str.{IsUtf8-append, chars-append}
use Rattle.opa_date.specs.declared.TheConstants.{DAYS}
use Rattle.opa_date.specs.Gregorian.{date_of}
use Rattle.opa_date.specs.Moves.{add_days, add_months, add_years, years_between}
use Rattle.opa_value.specs.declared.value.Value.{Value}
use Rattle.opa_value.specs.declared.value.Value.TheVariants as value
use Rattle.opa_value.specs.Arithmetic.{near, product, quotient}
use Rattle.opa_value.specs.Fit.{fit_of}
use Rattle.opa_value.specs.Numbers.{InRange, in_range, kept, most}
use Rattle.opa_value.specs.Truth.{is_false, is_true, is_unknown, is_uncertain, all_of, any_of, not_of, strict, unless_open}
use Rattle.opa_value.proofs.Rounding.{rounded_range}
use Rattle.opa_line.specs.Lines.{value_from}
use Rattle.opa_window.specs.Days.{over_days, last_days, day_value}
use Rattle.opa_window.specs.Folds.{held, number_of, best, best_from, is_less, is_more, sum_value, run_value, total, longest}
use Rattle.opa_window.specs.Windows.{on_date, on_dates, at_date, in_window, years_value}
use Rattle.opa_words.specs.Characters.{is_control}
use Rattle.opa_model.specs.declared.ids.AttrId.{AttrId}
use Rattle.opa_model.specs.declared.things.Kind.{Kind}
use Rattle.opa_model.specs.declared.things.Kind.TheVariants as kinds
use Rattle.opa_cells.specs.Instances.{named}
use Rattle.opa_cells.specs.declared.instance.InstanceId.{InstanceId}
use Rattle.opa_case.specs.Cases.{Answer, CaseView}
use Rattle.opa_case.specs.Fits.{has_two_decimals}
use Rattle.opa_case.specs.Shapes.{Shape, shape_of, attribute_or}
use Rattle.opa_case.specs.Steps.{has_kind, is_date}
use Rattle.opa_text.specs.Laws.{CanBeQuoted, CanBeWritten}
use Rattle.opa_tree.specs.declared.expr.Expr.{Expr}
use Rattle.opa_tree.specs.declared.expr.Row.{Row}
use Rattle.opa_tree.specs.declared.expr.Expr.TheOpen.{Expr-F, Const, Attr, All, Any, Not, Op, Certain, Known, Over, Window, Rolling, Table}
use Rattle.opa_tree.specs.declared.expr.Expr.TheFolds.{fold-Row, fold-roll-Expr, fold_out-Row, map-Expr}
use Rattle.opa_tree.specs.declared.expr.Expr.TheViews.{roll-Expr}
use Rattle.opa_tree.specs.declared.kinds.OpKind.{OpKind}
use Rattle.opa_tree.specs.declared.kinds.OpKind.TheVariants as op
use Rattle.opa_tree.specs.declared.kinds.Quant.{Quant}
use Rattle.opa_tree.specs.declared.kinds.Quant.TheVariants as quant
use Rattle.opa_tree.specs.declared.kinds.WinKind.{WinKind}
use Rattle.opa_tree.specs.declared.kinds.WinKind.TheVariants as win
use Rattle.opa_tree.specs.declared.rulebase.Rulebase.{Rulebase}
use Rattle.opa_tree.specs.declared.rules.Rule.{Rule}
use Rattle.opa_tree.specs.Kinds.{counts_decimals}
use Rattle.opa_tree.specs.Rules.{rule_of}
use Rattle.opa_tree.proofs.Induction.{by_parts, Part, RowPart, without}
use Rattle.opa_mean.specs.Given.{base_of, facts_of, line_value}
use Rattle.opa_mean.specs.Looks.{Look}
use Rattle.opa_mean.specs.Mean.{concluded, fitted, is_money, look_of, mean_by}
use Rattle.opa_mean.specs.Meaning.{Meaning, RowMeaning, tree_step, value as value_of, each, at_place, choose, certain_of, known_of, true_count, first_value, item, quant_of, over, window, rolling, table}
use Rattle.opa_mean.specs.Operations.{op_of, on_one, on_two, on_number, on_numbers, whole_of, whole_value, truth, equal, less, round, day_or_not, moved, joined}
use Rattle.opa_mean.specs.Places.{owner_of, place}
use Rattle.opa_mean.specs.Rulebases.{IsOf, value_at}
use Rattle.opa_mean.proofs.Levels.{row_value, value-roll, row_value-is}
use Rattle.opa_mean.proofs.kinds.LawsHold.{values_have_kinds_holds}
use Rattle.opa_case.specs.Clean.{is_clean_answer, is_clean_value}
use Rattle.opa_verify.proofs.spelling.Cleanness.{quoted_from, none_both}
use Rattle.opa_verify.specs.Verdict.Fine.{IsHeld, IsFine, AreFine, together, constants_step, constants_row, constants, IsPrintableBase, IsPrintableCase}

-- ---- single values

cond_fine : (b : Bool) (v w : Value) → IsFine v → IsFine w → IsFine (cond b v w)
cond_fine true v w h k = h
cond_fine false v w h k = k

open_fine : (vs : List Value) (v : Value) → IsFine v → IsFine (unless_open vs v)
open_fine vs v h = cond_fine (list_any is_unknown vs) value.Unknown (cond (list_any is_uncertain vs) value.Uncertain v) tt (cond_fine (list_any is_uncertain vs) value.Uncertain v tt h)

all_fine : (vs : List Value) → IsFine (all_of vs)
all_fine vs = cond_fine (list_any is_false vs) (value.Bool false) (unless_open vs (value.Bool true)) tt (open_fine vs (value.Bool true) tt)

any_fine : (vs : List Value) → IsFine (any_of vs)
any_fine vs = cond_fine (list_any is_true vs) (value.Bool true) (unless_open vs (value.Bool false)) tt (open_fine vs (value.Bool false) tt)

not_fine : (v : Value) → IsFine (not_of v)
not_fine value.Unknown = tt
not_fine value.Uncertain = tt
not_fine (value.Bool b) = tt
not_fine (value.Num n) = tt
not_fine (value.Words t) = tt
not_fine (value.Day d) = tt

certain_fine : (v : Value) → IsFine (certain_of v)
certain_fine value.Unknown = tt
certain_fine value.Uncertain = tt
certain_fine (value.Bool b) = tt
certain_fine (value.Num n) = tt
certain_fine (value.Words t) = tt
certain_fine (value.Day d) = tt

known_fine : (v : Value) → IsFine (known_of v)
known_fine value.Unknown = tt
known_fine value.Uncertain = tt
known_fine (value.Bool b) = tt
known_fine (value.Num n) = tt
known_fine (value.Words t) = tt
known_fine (value.Day d) = tt

choose_fine : (c v w : Value) → IsFine v → IsFine w → IsFine (choose c v w)
choose_fine (value.Bool true) v w h k = h
choose_fine (value.Bool false) v w h k = k
choose_fine value.Unknown v w h k = tt
choose_fine value.Uncertain v w h k = tt
choose_fine (value.Num n) v w h k = tt
choose_fine (value.Words t) v w h k = tt
choose_fine (value.Day d) v w h k = tt

number_fine : (n : ℤ) → IsFine (number_of n)
number_fine n = go (in_range n) refl
  where
    go : (b : Bool) → in_range n ≡ b → IsFine (held (cond b (Some n) None))
    go true e = leb-true (unsigned_abs n) most e
    go false e = tt

kept_fine : (o : Option ℤ) → IsFine (held (option_and_then kept o))
kept_fine None = tt
kept_fine (Some n) = number_fine n

years_fine : (o : Option ℕ) → IsFine (years_value o)
years_fine None = tt
years_fine (Some n) = number_fine (pos (n * 10000))

round_fine : (m n : ℤ) → InRange m → InRange n → IsFine (round m n)
round_fine m n h k = cond_fine (counts_decimals n) _ value.Uncertain (rounded_range _ m h) tt

truth_fine : (o : Option Bool) → IsFine (truth o)
truth_fine None = tt
truth_fine (Some b) = tt

quoted_both : (s t : List ℕ) → CanBeQuoted s → CanBeQuoted t → CanBeQuoted (s ++ t)
quoted_both s t h k = record {
  utf8 = IsUtf8-append s t h.utf8 k.utf8;
  plain = ap (list_any is_control) (chars-append s t h.utf8) ∙ none_both (chars s) (chars t) h.plain k.plain;
}

joined_fine : (v w : Value) → IsFine v → IsFine w → IsFine (joined v w)
joined_fine (value.Words s) (value.Words t) h k = cond_fine (nat_le (length (s ++ t)) 1000) (value.Words (s ++ t)) value.Uncertain (quoted_both s t h k) tt
joined_fine _ _ h k = tt

day_fine : (o : Option ℕ) → IsFine (day_or_not o)
day_fine None = tt
day_fine (Some d) = tt

moved_fine : (move : ℕ → ℤ → Option ℕ) (v w : Value) → IsFine (moved move v w)
moved_fine move (value.Day s) (value.Num n) = cond_fine (nat_lt s DAYS) (day_or_not (option_and_then (move s) (whole_of n))) value.Uncertain (day_fine (option_and_then (move s) (whole_of n))) tt
moved_fine move _ _ = tt

-- ---- operands

one_fine : (f : Value → Value) → ((v : Value) → IsFine v → IsFine (f v)) → (vs : List Value) → AreFine vs → IsFine (on_one f vs)
one_fine f h [] a = tt
one_fine f h (v ∷ []) a = h v a.0
one_fine f h (v ∷ w ∷ vs) a = tt

two_fine : (f : Value → Value → Value) → ((v w : Value) → IsFine v → IsFine w → IsFine (f v w)) → (vs : List Value) → AreFine vs → IsFine (on_two f vs)
two_fine f h [] a = tt
two_fine f h (v ∷ []) a = tt
two_fine f h (v ∷ w ∷ []) a = h v w a.0 a.1.0
two_fine f h (u ∷ v ∷ w ∷ vs) a = tt

on_number_fine : (f : ℤ → Value) → ((n : ℤ) → IsFine (f n)) → (v : Value) → IsFine (on_number f v)
on_number_fine f h (value.Num n) = h n
on_number_fine f h _ = tt

on_numbers_fine : (f : ℤ → ℤ → Value) → ((m n : ℤ) → InRange m → InRange n → IsFine (f m n)) → (v w : Value) → IsFine v → IsFine w → IsFine (on_numbers f v w)
on_numbers_fine f h (value.Num m) (value.Num n) a b = h m n a b
on_numbers_fine f h _ _ a b = tt

on_date_fine : (f : ℕ → Value) → ((d : ℕ) → IsFine (f d)) → (v : Value) → IsFine (on_date f v)
on_date_fine f h (value.Day d) = cond_fine (nat_lt d DAYS) (f d) value.Uncertain (h d) tt
on_date_fine f h _ = tt

on_dates_fine : (f : ℕ → ℕ → Value) → ((s t : ℕ) → IsFine (f s t)) → (v w : Value) → IsFine (on_dates f v w)
on_dates_fine f h (value.Day s) (value.Day t) = cond_fine (nat_lt s DAYS && nat_lt t DAYS) (f s t) value.Uncertain (h s t) tt
on_dates_fine f h _ _ = tt

best_from_fine : (beaten : Value → Value → Bool) (v : Value) (vs : List Value) → IsFine v → AreFine vs → IsFine (best_from beaten v vs)
best_from_fine beaten v [] h a = h
best_from_fine beaten v (w ∷ vs) h a = best_from_fine beaten (cond (beaten v w) w v) vs (cond_fine (beaten v w) w v a.0 h) a.1

best_fine : (beaten : Value → Value → Bool) (vs : List Value) → AreFine vs → IsFine (best beaten vs)
best_fine beaten [] a = tt
best_fine beaten (v ∷ vs) a = best_from_fine beaten v vs a.0 a.1

numbers_fine : (f : ℤ → ℤ → ℤ) (vs : List Value) → AreFine vs → IsFine (on_two (on_numbers (λ m n. number_of (f m n))) vs)
numbers_fine f = two_fine (on_numbers (λ m n. number_of (f m n))) (on_numbers_fine (λ m n. number_of (f m n)) (λ m n a b. number_fine (f m n)))

compared_fine : (f : Value → Value → Option Bool) (vs : List Value) → AreFine vs → IsFine (on_two (λ v w. truth (f v w)) vs)
compared_fine f = two_fine (λ v w. truth (f v w)) (λ v w a b. truth_fine (f v w))

dated_fine : (f : ℕ → ℤ) (vs : List Value) → AreFine vs → IsFine (on_one (on_date (λ s. whole_value (f s))) vs)
dated_fine f = one_fine (on_date (λ s. whole_value (f s))) (λ v a. on_date_fine (λ s. whole_value (f s)) (λ s. number_fine (f s *ℤ pos 10000)) v)

op_fine : (o : OpKind) (vs : List Value) → AreFine vs → IsFine (op_of o vs)
op_fine op.Add vs a = numbers_fine (λ m n. m +ℤ n) vs a
op_fine op.Sub vs a = numbers_fine (λ m n. m -ℤ n) vs a
op_fine op.Mul vs a = numbers_fine product vs a
op_fine op.Div vs a = two_fine (on_numbers (λ m n. held (option_and_then kept (quotient m n)))) (on_numbers_fine (λ m n. held (option_and_then kept (quotient m n))) (λ m n h k. kept_fine (quotient m n))) vs a
op_fine op.Neg vs a = one_fine (on_number (λ n. number_of (neg_ℤ n))) (λ v h. on_number_fine (λ n. number_of (neg_ℤ n)) (λ n. number_fine (neg_ℤ n)) v) vs a
op_fine op.Eq vs a = compared_fine equal vs a
op_fine op.Ne vs a = compared_fine (λ v w. option_map not (equal v w)) vs a
op_fine op.Lt vs a = compared_fine less vs a
op_fine op.Le vs a = compared_fine (λ v w. option_map not (less w v)) vs a
op_fine op.Gt vs a = compared_fine (λ v w. less w v) vs a
op_fine op.Ge vs a = compared_fine (λ v w. option_map not (less v w)) vs a
op_fine op.Round vs a = two_fine (on_numbers round) (on_numbers_fine round round_fine) vs a
op_fine op.Min vs a = two_fine (λ v w. best is_more (v ∷ w ∷ [])) (λ v w h k. best_fine is_more (v ∷ w ∷ []) (h, (k, tt))) vs a
op_fine op.Max vs a = two_fine (λ v w. best is_less (v ∷ w ∷ [])) (λ v w h k. best_fine is_less (v ∷ w ∷ []) (h, (k, tt))) vs a
op_fine op.AddDays vs a = two_fine (moved add_days) (λ v w h k. moved_fine add_days v w) vs a
op_fine op.AddMonths vs a = two_fine (moved add_months) (λ v w h k. moved_fine add_months v w) vs a
op_fine op.AddYears vs a = two_fine (moved add_years) (λ v w h k. moved_fine add_years v w) vs a
op_fine op.DaysBetween vs a = two_fine (on_dates (λ s t. whole_value (pos t -ℤ pos s))) (λ v w h k. on_dates_fine (λ s t. whole_value (pos t -ℤ pos s)) (λ s t. number_fine ((pos t -ℤ pos s) *ℤ pos 10000)) v w) vs a
op_fine op.YearsBetween vs a = two_fine (on_dates (λ s t. years_value (years_between s t))) (λ v w h k. on_dates_fine (λ s t. years_value (years_between s t)) (λ s t. years_fine (years_between s t)) v w) vs a
op_fine op.YearOf vs a = dated_fine (λ s. (date_of s).year) vs a
op_fine op.MonthOf vs a = dated_fine (λ s. pos (date_of s).month) vs a
op_fine op.DayOf vs a = dated_fine (λ s. pos (date_of s).day) vs a
op_fine op.Concatenate vs a = two_fine joined joined_fine vs a

-- ---- quantifiers and windows

first_fine : (vs : List Value) → AreFine vs → IsFine (first_value vs)
first_fine [] a = tt
first_fine (v ∷ vs) a = a.0

quant_fine : (q : Quant) (vs : List Value) → AreFine vs → IsFine (quant_of q vs)
quant_fine quant.ForAll vs a = all_fine vs
quant_fine quant.Exists vs a = any_fine vs
quant_fine quant.For vs a = first_fine vs a
quant_fine quant.Count vs a = number_fine (pos (length vs * 10000))
quant_fine quant.CountIf vs a = open_fine vs (true_count vs) (number_fine (pos (length (filter is_true vs) * 10000)))
quant_fine quant.Sum vs a = open_fine vs (sum_value vs) (number_fine (total vs))
quant_fine quant.SumIf vs a = open_fine vs (sum_value vs) (number_fine (total vs))
quant_fine quant.Maximum vs a = open_fine vs (best is_less vs) (best_fine is_less vs a)
quant_fine quant.Minimum vs a = open_fine vs (best is_more vs) (best_fine is_more vs a)

item_fine : (q : Quant) (vs : List Value) → AreFine vs → IsFine (item q vs)
item_fine quant.SumIf [] a = tt
item_fine quant.SumIf (v ∷ []) a = a.0
item_fine quant.SumIf (v ∷ w ∷ []) a = choose_fine w v (value.Num (pos 0)) a.0 (omega arith)
item_fine quant.SumIf (u ∷ v ∷ w ∷ vs) a = tt
item_fine quant.ForAll [] a = tt
item_fine quant.ForAll (v ∷ []) a = a.0
item_fine quant.ForAll (v ∷ w ∷ vs) a = tt
item_fine quant.Exists [] a = tt
item_fine quant.Exists (v ∷ []) a = a.0
item_fine quant.Exists (v ∷ w ∷ vs) a = tt
item_fine quant.For [] a = tt
item_fine quant.For (v ∷ []) a = a.0
item_fine quant.For (v ∷ w ∷ vs) a = tt
item_fine quant.Count [] a = tt
item_fine quant.Count (v ∷ []) a = a.0
item_fine quant.Count (v ∷ w ∷ vs) a = tt
item_fine quant.CountIf [] a = tt
item_fine quant.CountIf (v ∷ []) a = a.0
item_fine quant.CountIf (v ∷ w ∷ vs) a = tt
item_fine quant.Sum [] a = tt
item_fine quant.Sum (v ∷ []) a = a.0
item_fine quant.Sum (v ∷ w ∷ vs) a = tt
item_fine quant.Maximum [] a = tt
item_fine quant.Maximum (v ∷ []) a = a.0
item_fine quant.Maximum (v ∷ w ∷ vs) a = tt
item_fine quant.Minimum [] a = tt
item_fine quant.Minimum (v ∷ []) a = a.0
item_fine quant.Minimum (v ∷ w ∷ vs) a = tt

-- a meaning is fine everywhere
abbrev FineMeaning : Meaning → Type 0
FineMeaning m = (enclosing : List InstanceId) (d : ℕ) → IsFine (m enclosing d)

abbrev FineMeanings : List Meaning → Type 0
FineMeanings ms = AllByRecursion FineMeaning ms

each_fine : (ms : List Meaning) → FineMeanings ms → (enclosing : List InstanceId) (d : ℕ) → AreFine (each ms enclosing d)
each_fine [] h enclosing d = tt
each_fine (m ∷ ms) h enclosing d = (h.0 enclosing d, each_fine ms h.1 enclosing d)

items_fine : (q : Quant) (t : ℕ) (ms : List Meaning) → FineMeanings ms → (names : List (List ℕ)) (enclosing : List InstanceId) (d : ℕ) → AreFine (map (λ n. item q (each ms (named t n ∷ enclosing) d)) names)
items_fine q t ms h [] enclosing d = tt
items_fine q t ms h (n ∷ names) enclosing d = (item_fine q (each ms (named t n ∷ enclosing) d) (each_fine ms h (named t n ∷ enclosing) d), items_fine q t ms h names enclosing d)

over_fine : (q : Quant) (t : ℕ) (o : Option (List (List ℕ))) (ms : List Meaning) → FineMeanings ms → (enclosing : List InstanceId) (d : ℕ) → IsFine (over q t o ms enclosing d)
over_fine q t None ms h enclosing d = tt
over_fine q t (Some names) ms h enclosing d = quant_fine q (map (λ n. item q (each ms (named t n ∷ enclosing) d)) names) (items_fine q t ms h names enclosing d)

map_fine : (x : ℕ → Value) → ((d : ℕ) → IsFine (x d)) → (ds : List ℕ) → AreFine (map x ds)
map_fine x h [] = tt
map_fine x h (d ∷ ds) = (h d, map_fine x h ds)

at_date_fine : (f : ℕ → Value) (v : Value) → ((d : ℕ) → IsFine (f d)) → IsFine (at_date f v)
at_date_fine f v h = open_fine (v ∷ []) (on_date f v) (on_date_fine f h v)

in_window_fine : (fold : List Value → Value) (x : ℕ → Value) (v w : Value) → ((vs : List Value) → AreFine vs → IsFine (fold vs)) → ((d : ℕ) → IsFine (x d)) → IsFine (in_window fold x v w)
in_window_fine fold x v w h a =
    open_fine (v ∷ w ∷ []) (on_dates (λ s t. fold (over_days x s t)) v w) (on_dates_fine (λ s t. fold (over_days x s t)) (λ s t. h (over_days x s t) (map_fine x a _)) v w)

window_fine : (k : WinKind) (ms : List Meaning) → FineMeanings ms → (enclosing : List InstanceId) (d : ℕ) → IsFine (window k ms enclosing d)
window_fine win.Before (p ∷ []) h enclosing d = at_date_fine (λ s. value.Bool (nat_lt d s)) (p enclosing d) (λ s. tt)
window_fine win.OnOrAfter (p ∷ []) h enclosing d = at_date_fine (λ s. value.Bool (nat_le s d)) (p enclosing d) (λ s. tt)
window_fine win.YearsSince (p ∷ []) h enclosing d = at_date_fine (λ s. years_value (years_between s d)) (p enclosing d) (λ s. years_fine (years_between s d))
window_fine win.ValueAt (p ∷ x ∷ []) h enclosing d = at_date_fine (x enclosing) (p enclosing d) (h.1.0 enclosing)
window_fine win.Always (p ∷ q ∷ x ∷ []) h enclosing d = in_window_fine all_of (x enclosing) (p enclosing d) (q enclosing d) (λ vs a. all_fine vs) (h.1.1.0 enclosing)
window_fine win.Sometimes (p ∷ q ∷ x ∷ []) h enclosing d = in_window_fine any_of (x enclosing) (p enclosing d) (q enclosing d) (λ vs a. any_fine vs) (h.1.1.0 enclosing)
window_fine win.DailySum (p ∷ q ∷ x ∷ []) h enclosing d = in_window_fine (strict sum_value) (x enclosing) (p enclosing d) (q enclosing d) (λ vs a. open_fine vs (sum_value vs) (number_fine (total vs))) (h.1.1.0 enclosing)
window_fine win.Maximum (p ∷ q ∷ x ∷ []) h enclosing d = in_window_fine (strict (best is_less)) (x enclosing) (p enclosing d) (q enclosing d) (λ vs a. open_fine vs (best is_less vs) (best_fine is_less vs a)) (h.1.1.0 enclosing)
window_fine win.Minimum (p ∷ q ∷ x ∷ []) h enclosing d = in_window_fine (strict (best is_more)) (x enclosing) (p enclosing d) (q enclosing d) (λ vs a. open_fine vs (best is_more vs) (best_fine is_more vs a)) (h.1.1.0 enclosing)
window_fine win.ConsecutiveDays (p ∷ q ∷ x ∷ []) h enclosing d = in_window_fine (strict run_value) (x enclosing) (p enclosing d) (q enclosing d) (λ vs a. open_fine vs (run_value vs) (number_fine (pos (longest vs * 10000)))) (h.1.1.0 enclosing)
window_fine _ _ h enclosing d = tt

rolling_fine : (b : Bool) (n : ℕ) (x : ℕ → Value) (d : ℕ) → IsFine (rolling b n x d)
rolling_fine true n x d = all_fine (last_days n x d)
rolling_fine false n x d = any_fine (last_days n x d)

place_fine : (o : Option InstanceId) (f : InstanceId → Value) → ((i : InstanceId) → IsFine (f i)) → IsFine (at_place o f)
place_fine None f h = tt
place_fine (Some i) f h = h i

-- ---- trees

unfoldable row_constants : Row → List Value
row_constants = fold-Row (List Value) (List Value) constants_step constants_row

constants-roll : (x : Expr-F Expr Row) → constants (roll-Expr x) ≡ constants_step (map-Expr Expr Row (List Value) (List Value) constants row_constants x)
unfolding constants row_constants
constants-roll = fold-roll-Expr (List Value) (List Value) constants_step constants_row

row_constants-is : (r : Row) → row_constants r ≡ constants r.cond ++ constants r.value
unfolding row_constants constants
row_constants-is r = fold_out-Row (List Value) (List Value) constants_step constants_row r

fine_parts : (xs ys : List Value) → AreFine (xs ++ ys) → AreFine xs × AreFine ys
fine_parts [] ys h = (tt, h)
fine_parts (x ∷ xs) ys h = let r = fine_parts xs ys h.1 in ((h.0, r.0), r.1)

module _ (s : Shape) (l : Look) (look : (a : AttrId) (i : InstanceId) (d : ℕ) → IsFine (l.value a i d)) where
  abbrev TreeFine : Expr → Type 0
  TreeFine e = AreFine (constants e) → FineMeaning (value_of s l e)

  abbrev Parts : Type 0
  Parts = List (Part TreeFine)

  parts_fine : (ps : Parts) → AreFine (together (map constants (map (λ p. p.0) ps))) → FineMeanings (map (value_of s l) (map (λ p. p.0) ps))
  parts_fine [] h = tt
  parts_fine (p ∷ ps) h = let both = fine_parts (constants p.0) (together (map constants (map (λ q. q.0) ps))) h in (p.1 both.0, parts_fine ps both.1)

  table_fine : (rs : List (RowPart TreeFine)) → AreFine (together (map row_constants (map (λ r. r.0) rs))) → (last : Meaning) → FineMeaning last → FineMeaning (table (map (row_value s l) (map (λ r. r.0) rs)) last)
  table_fine [] h last own enclosing d = own enclosing d
  table_fine (r ∷ rs) h last own enclosing d =
      let both = fine_parts (row_constants r.0) (together (map row_constants (map (λ q. q.0) rs))) h in
      let parts = fine_parts (constants r.0.cond) (constants r.0.value) (subst AreFine (row_constants-is r.0) both.0) in
      let rest = table_fine rs both.1 last own enclosing d in
      subst (λ (a : RowMeaning). IsFine (choose (a.cond enclosing d) (a.value enclosing d) (table (map (row_value s l) (map (λ q. q.0) rs)) last enclosing d))) (sym (row_value-is s l r.0))
      (choose_fine (value_of s l r.0.cond enclosing d) (value_of s l r.0.value enclosing d) _ (r.1.1 parts.1 enclosing d) rest)

  abbrev level : Expr-F (Part TreeFine) (RowPart TreeFine) → Expr-F Meaning RowMeaning
  level z = map-Expr Expr Row Meaning RowMeaning (value_of s l) (row_value s l) (without TreeFine z)

  abbrev level_constants : Expr-F (Part TreeFine) (RowPart TreeFine) → Expr-F (List Value) (List Value)
  level_constants z = map-Expr Expr Row (List Value) (List Value) constants row_constants (without TreeFine z)

  abbrev here : Part TreeFine → List InstanceId → ℕ → Value
  here p enclosing d = value_of s l p.0 enclosing d

  abbrev meanings : Parts → List Meaning
  meanings ps = map (value_of s l) (map (λ p. p.0) ps)

  level_fine : (z : Expr-F (Part TreeFine) (RowPart TreeFine)) → AreFine (constants_step (level_constants z)) → FineMeaning (tree_step s l (level z))
  level_fine (Const v) h enclosing d = h.0
  level_fine (Attr a) h enclosing d = place_fine (place l.container enclosing (owner_of s a)) (λ i. l.value a i d) (λ i. look a i d)
  level_fine (All ps) h enclosing d = all_fine (each (meanings ps) enclosing d)
  level_fine (Any ps) h enclosing d = any_fine (each (meanings ps) enclosing d)
  level_fine (Not p) h enclosing d = not_fine (here p enclosing d)
  level_fine (Op o ps) h enclosing d = open_fine (each (meanings ps) enclosing d) _ (op_fine o (each (meanings ps) enclosing d) (each_fine (meanings ps) (parts_fine ps h) enclosing d))
  level_fine (Certain p) h enclosing d = certain_fine (here p enclosing d)
  level_fine (Known p) h enclosing d = known_fine (here p enclosing d)
  level_fine (Over q r ps) h enclosing d = place_fine (place l.container enclosing (s.source r)) (λ i. over q (s.target r) (l.members r i) (meanings ps) enclosing d) (λ i. over_fine q (s.target r) (l.members r i) (meanings ps) (parts_fine ps h) enclosing d)
  level_fine (Window w ps) h enclosing d = window_fine w (meanings ps) (parts_fine ps h) enclosing d
  level_fine (Rolling b n p) h enclosing d = rolling_fine b n (here p enclosing) d
  level_fine (Table rs p) h enclosing d =
      let both = fine_parts (together (map row_constants (map (λ r. r.0) rs))) (constants p.0) h in table_fine rs both.0 (value_of s l p.0) (p.1 both.1) enclosing d

  pub tree_fine : (e : Expr) → TreeFine e
  tree_fine = by_parts TreeFine (λ z h enclosing d.
      subst (λ (v : Meaning). IsFine (v enclosing d)) (sym (value-roll s l (without TreeFine z))) (level_fine z (subst AreFine (constants-roll (without TreeFine z)) h) enclosing d))

-- ---- answers and conclusions

from_fine : (v : Value) (l : Answer) (d : ℕ) → IsFine v → AllByRecursion (λ p. IsFine p.1) l → IsFine (value_from v l d)
from_fine v [] d h a = h
from_fine v (p ∷ l) d h a = cond_fine (nat_le p.0 d) (value_from p.1 l d) v (from_fine p.1 l d a.0 a.1) h

line_fine : (l : Answer) (d : ℕ) → AllByRecursion (λ p. IsFine p.1) l → IsFine (day_value l d)
line_fine [] d a = tt
line_fine (p ∷ l) d a = from_fine p.1 l d a.0 a.1

fit_fine : (b : Bool) (v : Value) → IsFine v → IsFine (fit_of b v)
fit_fine true (value.Num n) h = rounded_range 2 n h
fit_fine true value.Unknown h = tt
fit_fine true value.Uncertain h = tt
fit_fine true (value.Bool b) h = tt
fit_fine true (value.Words t) h = h
fit_fine true (value.Day d) h = tt
fit_fine false v h = h

-- a number with at most two decimals
abbrev Cents : Value → Type 0
Cents (value.Num n) = unsigned_abs n % 100 ≡ 0
Cents v = Unit {0}

two_cents : (v : Value) → has_two_decimals v ≡ true → Cents v
two_cents (value.Num n) h = eqb-true (unsigned_abs n % 100) 0 h
two_cents value.Unknown h = tt
two_cents value.Uncertain h = tt
two_cents (value.Bool b) h = tt
two_cents (value.Words t) h = tt
two_cents (value.Day d) h = tt

cond_cents : (b : Bool) (v w : Value) → Cents v → Cents w → Cents (cond b v w)
cond_cents true v w h k = h
cond_cents false v w h k = k

from_cents : (v : Value) (l : Answer) (d : ℕ) → Cents v → list_all (λ p. has_two_decimals p.1) l ≡ true → Cents (value_from v l d)
from_cents v [] d h a = h
from_cents v (p ∷ l) d h a =
    let both = and_parts (has_two_decimals p.1) (list_all (λ (q : ℕ × Value). has_two_decimals q.1) l) a in cond_cents (nat_le p.0 d) (value_from p.1 l d) v (from_cents p.1 l d (two_cents p.1 both.0) both.1) h

line_cents : (l : Answer) (d : ℕ) → list_all (λ p. has_two_decimals p.1) l ≡ true → Cents (day_value l d)
line_cents [] d a = tt
line_cents (p ∷ l) d a = let both = and_parts (has_two_decimals p.1) (list_all (λ (q : ℕ × Value). has_two_decimals q.1) l) a in from_cents p.1 l d (two_cents p.1 both.0) both.1

fit_cents : (v : Value) → Cents (fit_of true v)
fit_cents (value.Num n) = let e : unsigned_abs (near n 100 *ℤ pos 100) ≡ unsigned_abs (near n 100) * 100 = unsigned_abs-mul (near n 100) (pos 100) in omega (arith, e)
fit_cents value.Unknown = tt
fit_cents value.Uncertain = tt
fit_cents (value.Bool b) = tt
fit_cents (value.Words t) = tt
fit_cents (value.Day d) = tt

fine_of : (v : Value) → is_clean_value v ≡ true → IsHeld v → IsFine v
fine_of (value.Words t) h k = quoted_from t k (not-true (list_any is_control t) h)
fine_of (value.Num n) h k = k
fine_of value.Unknown h k = tt
fine_of value.Uncertain h k = tt
fine_of (value.Bool b) h k = tt
fine_of (value.Day d) h k = tt

fine_answer : (l : Answer) → is_clean_answer l ≡ true → AllByRecursion (λ p. IsHeld p.1) l → AllByRecursion (λ p. IsFine p.1) l
fine_answer [] h k = tt
fine_answer (p ∷ l) h k = let both = and_parts (is_clean_value p.1) (is_clean_answer l) h in (fine_of p.1 both.0 k.0, fine_answer l both.1 k.1)

module _ (r : Rulebase) (c : CaseView) (is : IsOf r c) (base : IsPrintableBase r) (own : IsPrintableCase c) where
  answers_fine : (a : AttrId) (i : InstanceId) (d : ℕ) → IsFine ((facts_of c).answer a i d)
  answers_fine a i d = go (get c.answers (a.0, i)) refl
    where
      go : (o : Option Answer) → get c.answers (a.0, i) ≡ o → IsFine (line_value o d)
      go None e = tt
      go (Some l) e = line_fine l d (fine_answer l (own.clean.texts a i l e) (own.answers a i l e))

  steps_fine : (n : ℕ) (a : AttrId) (i : InstanceId) (d : ℕ) → IsFine (mean_by (base_of r) (facts_of c) n a i d)
  unfolding mean_by
  steps_fine zero a i d = tt
  steps_fine (suc n) a i d = go (rule_of r.rules a) refl (tree_fine (shape_of r.model) (look_of (facts_of c) (mean_by (base_of r) (facts_of c) n)) (steps_fine n))
    where
      go : (o : Option Rule) → rule_of r.rules a ≡ o → ((e : Expr) → AreFine (constants e) → FineMeaning (value_of (shape_of r.model) (look_of (facts_of c) (mean_by (base_of r) (facts_of c) n)) e))
          → IsFine (concluded o ((facts_of c).answer a i d) (λ e. fitted (shape_of r.model) a (value_of (shape_of r.model) (look_of (facts_of c) (mean_by (base_of r) (facts_of c) n)) e (i ∷ []) d)))
      go None e rec = answers_fine a i d
      go (Some rule) e rec =
          fit_fine (is_money (attribute_or r.model a).kind) (value_of (shape_of r.model) (look_of (facts_of c) (mean_by (base_of r) (facts_of c) n)) rule.expr (i ∷ []) d)
          (rec rule.expr (base.constants_are a rule e) (i ∷ []) d)

  money_cents : (n : ℕ) (a : AttrId) (i : InstanceId) (d : ℕ) → (attribute_or r.model a).kind ≡ kinds.Currency → Cents (mean_by (base_of r) (facts_of c) (suc n) a i d)
  unfolding mean_by
  money_cents n a i d k = go (rule_of r.rules a) refl
    where
      answered : (o : Option Answer) → get c.answers (a.0, i) ≡ o → Cents (line_value o d)
      answered None e = tt
      answered (Some l) e = line_cents l d ((is.fits.answers a i l e).currency k)

      go : (o : Option Rule) → rule_of r.rules a ≡ o
          → Cents (concluded o ((facts_of c).answer a i d) (λ e. fitted (shape_of r.model) a (value_of (shape_of r.model) (look_of (facts_of c) (mean_by (base_of r) (facts_of c) n)) e (i ∷ []) d)))
      go None e = answered (get c.answers (a.0, i)) refl
      go (Some rule) e =
          subst (λ b. Cents (fit_of b (value_of (shape_of r.model) (look_of (facts_of c) (mean_by (base_of r) (facts_of c) n)) rule.expr (i ∷ []) d))) (sym (ap is_money k))
          (fit_cents (value_of (shape_of r.model) (look_of (facts_of c) (mean_by (base_of r) (facts_of c) n)) rule.expr (i ∷ []) d))

  written : (k : Kind) (v : Value) → IsFine v → has_kind k v ≡ true → (k ≡ kinds.Currency → Cents v) → CanBeWritten k v
  written k value.Unknown f h m = tt
  written k value.Uncertain f h m = tt
  written k (value.Bool b) f h m = tt
  written k (value.Words t) f h m = f
  written k (value.Day d) f h m = ltb-true d DAYS (and_parts (is_date k) (nat_lt d DAYS) h).1
  written kinds.Currency (value.Num n) f h m = (f, m refl)
  written kinds.Bool (value.Num n) f h m = (f, tt)
  written kinds.Number (value.Num n) f h m = (f, tt)
  written kinds.Words (value.Num n) f h m = (f, tt)
  written kinds.Date (value.Num n) f h m = (f, tt)

  -- each value can be written as one of its attribute's kind
  pub value_written : (a : AttrId) (i : InstanceId) (d : ℕ) → CanBeWritten (attribute_or r.model a).kind (value_at r c a i d)
  value_written a i d =
      written (attribute_or r.model a).kind (value_at r c a i d) (steps_fine _ a i d) (values_have_kinds_holds r c is a i d) (λ k. money_cents _ a i d k)
