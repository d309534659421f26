-- Lists of values with one tally.
use Rattle.std.proofs.Common.{◌≡◌, ℕ, ◌+◌, Bool, true, false, cond, List, ◌++◌, Option, None, Some, length, refl, sym, ◌∙◌, ap, arith}
use Rattle.std.specs.Prelude.{ℤ, ◌+ℤ◌, ◌≤ℤ◌, ◌≤◌, ◌||◌, filter}
use Rattle.std.proofs.lemmas.List.{length-append}
use Rattle.std.proofs.lemmas.List.Elements.{filter-append}
use Rattle.opa_value.specs.declared.value.Value.{Value}
use Rattle.opa_value.specs.Truth.{is_true}
use Rattle.opa_window.specs.Folds.{total}
use Rattle.opa_code.specs.OverLines.Additions.{Alike}
use Rattle.opa_code.specs.OverLines.Tallies.{marks_of, both_marks, winner, ahead, peak, number_in, day_in, beats_number, beats_day}
use Rattle.opa_code.specs.declared.over_lines.marks.Marks.{Marks}
use Rattle.opa_code.proofs.over_lines.Tallying.{total-append, peak-append, number_assoc, day_assoc, both_marks_are}

-- of two it doesn't matter which comes first
module _ {X : Type 0} (lt : X → X → Bool) (below : X → X → Type 0)
    (is_below : (x y : X) → lt x y ≡ true → below x y) (not_below : (x y : X) → lt x y ≡ false → below y x) (same : (x y : X) → below x y → below y x → x ≡ y) where
  winner_swap : (x y : X) → winner lt x y ≡ winner lt y x
  winner_swap x y = go (lt x y) refl (lt y x) refl
    where
      go : (a : Bool) → lt x y ≡ a → (b : Bool) → lt y x ≡ b → cond a y x ≡ cond b x y
      go true e true f = same y x (is_below y x f) (is_below x y e)
      go true e false f = refl
      go false e true f = refl
      go false e false f = same x y (not_below y x f) (not_below x y e)

  pub ahead_swap : (x y : Option X) → ahead lt x y ≡ ahead lt y x
  ahead_swap None None = refl
  ahead_swap None (Some y) = refl
  ahead_swap (Some x) None = refl
  ahead_swap (Some x) (Some y) = ap Some (winner_swap x y)

number_swap : (most : Bool) (x y : Option ℤ) → ahead (beats_number most) x y ≡ ahead (beats_number most) y x
number_swap true = ahead_swap (beats_number true) (λ x y. x ≤ℤ y) (λ x y e. grind (arith, e)) (λ x y e. grind (arith, e)) (λ x y h k. grind (arith, h, k))
number_swap false = ahead_swap (beats_number false) (λ x y. y ≤ℤ x) (λ x y e. grind (arith, e)) (λ x y e. grind (arith, e)) (λ x y h k. grind (arith, h, k))

day_swap : (most : Bool) (x y : Option ℕ) → ahead (beats_day most) x y ≡ ahead (beats_day most) y x
day_swap true = ahead_swap (beats_day true) (λ x y. x ≤ y) (λ x y e. grind (arith, e)) (λ x y e. grind (arith, e)) (λ x y h k. omega (arith, h, k))
day_swap false = ahead_swap (beats_day false) (λ x y. y ≤ x) (λ x y e. grind (arith, e)) (λ x y e. grind (arith, e)) (λ x y h k. omega (arith, h, k))

or_swap : (a b : Bool) → (a || b) ≡ (b || a)
or_swap true true = refl
or_swap true false = refl
or_swap false true = refl
or_swap false false = refl

marks_swap : (s t : Marks) → both_marks s t ≡ both_marks t s
marks_swap s t =
    ap (λ b. let m : Marks = record { some_false = b; some_true = s.some_true || t.some_true; unknown = s.unknown || t.unknown; uncertain = s.uncertain || t.uncertain } in m) (or_swap s.some_false t.some_false)
    ∙ ap (λ b. let m : Marks = record { some_false = t.some_false || s.some_false; some_true = b; unknown = s.unknown || t.unknown; uncertain = s.uncertain || t.uncertain } in m) (or_swap s.some_true t.some_true)
    ∙ ap (λ b. let m : Marks = record { some_false = t.some_false || s.some_false; some_true = t.some_true || s.some_true; unknown = b; uncertain = s.uncertain || t.uncertain } in m) (or_swap s.unknown t.unknown)
    ∙ ap (λ b. let m : Marks = record { some_false = t.some_false || s.some_false; some_true = t.some_true || s.some_true; unknown = t.unknown || s.unknown; uncertain = b } in m) (or_swap s.uncertain t.uncertain)

pub alike_is : (vs ws : List Value) → vs ≡ ws → Alike vs ws
alike_is vs ws e = record {
  marks = ap marks_of e;
  trues = ap (λ us. length (filter is_true us)) e;
  total = ap total e;
  size = ap length e;
  number = λ most. ap (peak (beats_number most) number_in) e;
  day = λ most. ap (peak (beats_day most) day_in) e;
}

pub alike_then : (us vs ws : List Value) → Alike us vs → Alike vs ws → Alike us ws
alike_then us vs ws h k = record {
  marks = h.marks ∙ k.marks;
  trues = h.trues ∙ k.trues;
  total = h.total ∙ k.total;
  size = h.size ∙ k.size;
  number = λ most. h.number most ∙ k.number most;
  day = λ most. h.day most ∙ k.day most;
}

trues-append : (vs ws : List Value) → length (filter is_true (vs ++ ws)) ≡ length (filter is_true vs) + length (filter is_true ws)
trues-append vs ws = ap length (filter-append is_true vs ws) ∙ length-append (filter is_true vs) (filter is_true ws)

number-append : (most : Bool) (vs ws : List Value) → peak (beats_number most) number_in (vs ++ ws) ≡ ahead (beats_number most) (peak (beats_number most) number_in vs) (peak (beats_number most) number_in ws)
number-append most vs ws = peak-append (beats_number most) (number_assoc most) number_in vs ws

day-append : (most : Bool) (vs ws : List Value) → peak (beats_day most) day_in (vs ++ ws) ≡ ahead (beats_day most) (peak (beats_day most) day_in vs) (peak (beats_day most) day_in ws)
day-append most vs ws = peak-append (beats_day most) (day_assoc most) day_in vs ws

pub alike_both : (ps qs rs ss : List Value) → Alike ps qs → Alike rs ss → Alike (ps ++ rs) (qs ++ ss)
alike_both ps qs rs ss h k = record {
  marks = sym (both_marks_are ps rs) ∙ ap (λ m. both_marks m (marks_of rs)) h.marks ∙ ap (both_marks (marks_of qs)) k.marks ∙ both_marks_are qs ss;
  trues = trues-append ps rs ∙ ap (λ n. n + length (filter is_true rs)) h.trues ∙ ap (λ n. length (filter is_true qs) + n) k.trues ∙ sym (trues-append qs ss);
  total = total-append ps rs ∙ ap (λ z. z +ℤ total rs) h.total ∙ ap (λ z. total qs +ℤ z) k.total ∙ sym (total-append qs ss);
  size = length-append ps rs ∙ ap (λ n. n + length rs) h.size ∙ ap (λ n. length qs + n) k.size ∙ sym (length-append qs ss);
  number = λ most. number-append most ps rs ∙ ap (λ o. ahead (beats_number most) o (peak (beats_number most) number_in rs)) (h.number most) ∙ ap (ahead (beats_number most) (peak (beats_number most) number_in qs)) (k.number most)
      ∙ sym (number-append most qs ss);
  day = λ most. day-append most ps rs ∙ ap (λ o. ahead (beats_day most) o (peak (beats_day most) day_in rs)) (h.day most) ∙ ap (ahead (beats_day most) (peak (beats_day most) day_in qs)) (k.day most) ∙ sym (day-append most qs ss);
}

pub alike_swap : (vs ws : List Value) → Alike (vs ++ ws) (ws ++ vs)
alike_swap vs ws = record {
  marks = sym (both_marks_are vs ws) ∙ marks_swap (marks_of vs) (marks_of ws) ∙ both_marks_are ws vs;
  trues = let a = trues-append vs ws in let b = trues-append ws vs in omega (arith, a, b);
  total = total-append vs ws ∙ sum_swap (total vs) (total ws) ∙ sym (total-append ws vs);
  size = let a = length-append vs ws in let b = length-append ws vs in omega (arith, a, b);
  number = λ most. number-append most vs ws ∙ number_swap most (peak (beats_number most) number_in vs) (peak (beats_number most) number_in ws) ∙ sym (number-append most ws vs);
  day = λ most. day-append most vs ws ∙ day_swap most (peak (beats_day most) day_in vs) (peak (beats_day most) day_in ws) ∙ sym (day-append most ws vs);
}
  where
    sum_swap : (a b : ℤ) → (a +ℤ b) ≡ (b +ℤ a)
    sum_swap a b = grind arith
